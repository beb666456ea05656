-- The parts of a copy, one after the other: what is written in all, and which refusal it is.
use Rattle.std.{proofs.{Common.{◌≡◌, ◌⊎◌, inl, inr, ℕ, List, [], ◌∷◌, ◌++◌, length, Option, Some, None, Result, Ok, Err, refl, sym, ◌∙◌, ap, subst, append_assoc}, lemmas.List.{append-nil}}, specs.Prelude.{IfErr}}
use Rattle.{df_base.specs.{Image.{Image}, Log.{Event}}, df_layout.specs.declared.layout.Layout.{Layout}, df_format.specs.Message.{Message}}
use Rattle.df_disk.{specs.{Told.{Told}, Adds.{AddsPart, after_all}}, proofs.Laws.{after_append, all_then, part_then}}
use Rattle.{df_grid.specs.Writes.{made_events}, df_opening.specs.Below.{State, memory}}
use Rattle.df_model.{specs.{Refusals.{first_refusal}, Supply.{Shown}}, proofs.Laws.{behind_decides, first_refuses}}
use Rattle.df_copy.{specs.{declared.ending.Ending.{Ending}, declared.ending.Ending.TheVariants.{BlockTooLong, Damaged, NotAtRest, NotBlank, ReplyTooLong, Source, Target as TargetFails, TooFewBlocks, TooFewClients}, declared.target.Target.{Target}, Acts.{CopiesBlocks, CopiesReplies, FitBlocks, FitReplies, StopsBehind}, Copying.{BeginsTarget, Copied, CopiesInto, CopiesPlanned, CopiesUnits, Finishes, IsAll, IsCopyJudged, JudgesCopy, OverTold, PassesTo, units_written}, Targets.{IsTarget, KeepsGrid, copy_events, events_before_trailer, ring_events, superblock_events, trailer_of}, Tests.{blank_tests, block_tests, references, reply_tests, rest_tests, tests, unit_tests}, Units.{OverShown, all_events, moved_from, reply_events}}, proofs.{Blamed.{by_ending}, Listed.{over_all, over_both, over_by}, Turns.{stops_within}}}

-- ---- replies and blocks

module _ (layout : Layout) (s : State) (from : Option Told) where
  no_blocks_fit : FitBlocks layout s from []
  no_blocks_fit = record { are = record { each = λ i u at. absurd (cc) }; fit = λ i u at. absurd (cc) }

  no_replies_fit : FitReplies layout s from []
  no_replies_fit = record { are = record { each = λ i u at. absurd (cc) }; fit = λ i u at. absurd (cc) }

  abbrev only_replies : (rs : List Message) → FitReplies layout s from rs → Copied layout s from
  only_replies rs fit = record { replies = rs; blocks = []; are_replies = fit; are_blocks = no_blocks_fit; in_order = inl refl }

  abbrev with_blocks : (rs bs : List Message)
      → FitReplies layout s from rs → length rs ≡ length s.table.sessions → FitBlocks layout s from bs → Copied layout s from
  with_blocks rs bs fit all fits = record { replies = rs; blocks = bs; are_replies = fit; are_blocks = fits; in_order = inr all }

  no_more : (rs : List Message) → units_written layout rs [] ≡ all_events (reply_events layout) rs
  no_more rs = append-nil (all_events (reply_events layout) rs)

  replies_only : (rs : List Message) (old new : Option Told)
      → new ≡ after_all (all_events (reply_events layout) rs) old → new ≡ after_all (units_written layout rs []) old
  replies_only rs old new is = is ∙ ap (λ (l : List Event). after_all l old) (sym (no_more rs))

  then_blocks : (rs bs : List Message) (old mid new : Option Told) → mid ≡ after_all (all_events (reply_events layout) rs) old
      → new ≡ after_all (all_events (made_events layout) (moved_from 1 bs)) mid → new ≡ after_all (units_written layout rs bs) old
  then_blocks rs bs old mid new first second = second ∙ ap (after_all (all_events (made_events layout) (moved_from 1 bs))) first
      ∙ sym (after_append (all_events (reply_events layout) rs) (all_events (made_events layout) (moved_from 1 bs)) old)

module _ (T : Type 0) (s : State) (t n : Target) (from old : Option Told) where
  abbrev written : Copied t.layout s from → List Event
  written c = units_written t.layout c.replies c.blocks

  -- the copy ends in the replies
  pub units_stop : (checks : List (List ℕ)) (new : Option Told) (e : Ending)
      → CopiesReplies {T = T} t.layout s checks from old new (Err e) → CopiesUnits {T = T} s t n from old new (Err e)
  units_stop checks new e stops =
      stops_within s.file from (λ (x : (rs : List Message) × FitReplies t.layout s from rs). all_events (reply_events t.layout) x.0)
      written (λ shown. reply_tests t.layout shown (memory s)) (λ shown. unit_tests t.layout shown (memory s)) old old
      (λ x. only_replies t.layout s from x.0 x.1) (λ x newer is.
      replies_only t.layout s from x.0 old newer is) (λ x newer part. part_then (all_events (reply_events t.layout) x.0) [] old newer part)
      (λ e refused. over_by s.file from (λ shown. first_refusal (reply_tests t.layout shown (memory s)) ≡ Some e) (λ shown.
      first_refusal (unit_tests t.layout shown (memory s)) ≡ Some e) refused
      (λ shown is. first_refuses (reply_tests t.layout shown (memory s)) (block_tests t.layout shown (memory s)) e is)) new e stops

  -- or goes on with the blocks
  module _ (mid : Option Told) (rs : List Message) (fit : FitReplies t.layout s from rs)
      (all : length rs ≡ length s.table.sessions) (first : mid ≡ after_all (all_events (reply_events t.layout) rs) old)
      (none : OverShown s.file from (λ shown. first_refusal (reply_tests t.layout shown (memory s)) ≡ None)) where
    pub units_go : (new : Option Told) (r : Result T Ending) → CopiesBlocks t.layout s rs n from mid new r → CopiesUnits s t n from old new r
    units_go new (Ok x) copies = (
      with_blocks t.layout s from rs copies.0 fit all copies.1,
      record { replies = all; blocks = copies.2 },
      then_blocks t.layout s from rs copies.0 old mid new first copies.3,
      copies.4,
      over_both s.file from (λ shown. first_refusal (reply_tests t.layout shown (memory s)) ≡ None) (λ shown. first_refusal
          (block_tests t.layout shown (memory s)) ≡ None) (λ shown. first_refusal (unit_tests t.layout shown (memory s)) ≡ None) none copies.5
          (λ shown passed is. behind_decides (reply_tests t.layout shown (memory s)) (block_tests t.layout shown (memory s)) passed ∙ is),
    )
    units_go new (Err e) stops =
        stops_within s.file from (λ (x : (bs : List Message) × FitBlocks t.layout s from bs). all_events (made_events t.layout)
        (moved_from 1 x.0)) written (λ shown. block_tests t.layout shown (memory s)) (λ shown. unit_tests t.layout shown (memory s)) old mid
        (λ x. with_blocks t.layout s from rs x.0 fit all x.1) (λ x newer is. then_blocks t.layout s from rs x.0 old mid newer first is) (λ x newer part. all_then (all_events (reply_events t.layout) rs) (all_events (made_events t.layout) (moved_from 1 x.0)) old mid newer first part)
        (λ e refused. over_both s.file from (λ shown. first_refusal (reply_tests t.layout shown (memory s)) ≡ None) (λ shown. first_refusal (block_tests t.layout shown (memory s)) ≡ Some e) (λ shown. first_refusal (unit_tests t.layout shown (memory s)) ≡ Some e) none refused
        (λ shown passed is.
        behind_decides (reply_tests t.layout shown (memory s)) (block_tests t.layout shown (memory s)) passed ∙ is)) new e stops

-- the replies were copied, by calls that leave the source as it was
pub units_join : {T U : Type 0} (s kept : State) (t mid n : Target) (from same old written new : Option Told) (x : U) (r : Result T Ending)
    → kept ≡ s → same ≡ from → KeepsGrid t mid → IsTarget t.layout s.file.cluster [] [] t
    → CopiesReplies t.layout s mid.checks from old written (Ok x) → ((rs : List Message) → IsTarget mid.layout kept.file.cluster rs [] mid
    → CopiesBlocks mid.layout kept rs n same written new r) → CopiesUnits s t n from old new r
units_join {T = T} s kept t mid n from same old written new x r state told keeps begun first blocks = let rs : List Message = first.0 in
    let onward : (rs : List Message) → IsTarget t.layout s.file.cluster rs [] mid → CopiesBlocks t.layout s rs n from written new r =
    rw (← keeps.layout_is) (rw state at (rw told at blocks)) in let is : IsTarget t.layout s.file.cluster rs [] mid =
    record { layout_is = keeps.layout_is; grid = keeps.grid ∙ begun.grid; checks = first.4; copied = keeps.copied ∙ begun.copied } in
    units_go T s t n from old written rs first.1 first.2 first.3 first.5 new r (onward rs is)

-- ---- the ring before them, and the trailer and the superblock after

pub over_told : (told : Option Told) (P Q : Image → Type 0) → OverTold told P → ((image : Image) → P image → Q image) → OverTold told Q
over_told None P Q is f = tt
over_told (Some o) P Q is f = f o.shown is

pub told_all : (told : Option Told) (P : Image → Type 0) → ((image : Image) → P image) → OverTold told P
told_all None P f = tt
told_all (Some o) P f = f o.shown

module _ (T : Type 0) (layout : Layout) (s : State) (from old : Option Told) where
  abbrev cluster : ℕ
  cluster = s.file.cluster

  -- both kinds of tests, after each other
  planned_refused : (e : Ending) → OverTold old (λ image. first_refusal (blank_tests image) ≡ None)
      → OverShown s.file from (λ shown. first_refusal (unit_tests layout shown (memory s)) ≡ Some e) → OverTold old (λ image.
      OverShown s.file from (λ shown. first_refusal (blank_tests image ++ unit_tests layout shown (memory s)) ≡ Some e))
  planned_refused e blank is = over_told old (λ image. first_refusal (blank_tests image) ≡ None) (λ image.
      OverShown s.file from (λ shown. first_refusal (blank_tests image ++ unit_tests layout shown (memory s)) ≡ Some e)) blank
      (λ image passed. over_by s.file from (λ shown. first_refusal (unit_tests layout shown (memory s)) ≡ Some e) (λ shown.
      first_refusal (blank_tests image ++ unit_tests layout shown (memory s)) ≡ Some e) is
      (λ shown refused. behind_decides (blank_tests image) (unit_tests layout shown (memory s)) passed ∙ refused))

  -- nothing is begun
  begun_refused : (e : Ending) → OverTold old (λ image. first_refusal (blank_tests image) ≡ Some e) → OverTold old (λ image.
      OverShown s.file from (λ shown. first_refusal (blank_tests image ++ unit_tests layout shown (memory s)) ≡ Some e))
  begun_refused e is = over_told old (λ image. first_refusal (blank_tests image) ≡ Some e) (λ image.
      OverShown s.file from (λ shown. first_refusal (blank_tests image ++ unit_tests layout shown (memory s)) ≡ Some e)) is
      (λ image refused. over_all s.file from (λ shown. first_refusal (blank_tests image ++ unit_tests layout shown (memory s))
      ≡ Some e) (λ shown. first_refuses (blank_tests image) (unit_tests layout shown (memory s)) e refused))

  abbrev nothing : Copied layout s from
  nothing = record { replies = []; blocks = []; are_replies = no_replies_fit layout s from; are_blocks = no_blocks_fit layout s from; in_order = inl refl }

  silent : OverTold old (λ image. OverShown s.file from (λ shown. Unit {0}))
  silent = told_all old (λ image. OverShown s.file from (λ shown. Unit {0})) (λ image. over_all s.file from (λ shown. Unit {0}) (λ shown. tt))

  pub planned_stop : (new : Option Told) (e : Ending)
      → BeginsTarget {T = T} layout cluster old new (Err e) → CopiesPlanned {T = T} layout s from old new (Err e)
  planned_stop new TargetFails begins = record { writes = (nothing, inl (part_then (ring_events layout cluster) (units_written layout [] []) old new begins)); judged = silent }
  planned_stop new Source begins = absurd begins
  planned_stop new (NotAtRest a b c) begins = record { writes = inl begins.0; judged = begun_refused (NotAtRest a b c) begins.1 }
  planned_stop new (TooFewClients a b) begins = record { writes = inl begins.0; judged = begun_refused (TooFewClients a b) begins.1 }
  planned_stop new (TooFewBlocks a b) begins = record { writes = inl begins.0; judged = begun_refused (TooFewBlocks a b) begins.1 }
  planned_stop new (NotBlank a) begins = record { writes = inl begins.0; judged = begun_refused (NotBlank a) begins.1 }
  planned_stop new (ReplyTooLong a b) begins = record { writes = inl begins.0; judged = begun_refused (ReplyTooLong a b) begins.1 }
  planned_stop new (BlockTooLong a b) begins = record { writes = inl begins.0; judged = begun_refused (BlockTooLong a b) begins.1 }
  planned_stop new (Damaged a b) begins = record { writes = inl begins.0; judged = begun_refused (Damaged a b) begins.1 }

  module _ (begun : Option Told) (ring : begun ≡ after_all (ring_events layout cluster) old)
      (blank : OverTold old (λ image. first_refusal (blank_tests image) ≡ None)) where
    behind_ring : (rs bs : List Message) (new : Option Told)
        → new ≡ after_all (units_written layout rs bs) begun → new ≡ after_all (events_before_trailer layout cluster rs bs) old
    behind_ring rs bs new is = is ∙ ap (after_all (units_written layout rs bs)) ring
        ∙ sym (after_append (ring_events layout cluster) (units_written layout rs bs) old)

    units_refused : (e : Ending) (new : Option Told) → OverShown s.file from (λ shown. first_refusal (unit_tests layout shown (memory s))
        ≡ Some e) × (c : Copied layout s from) × (new ≡ after_all (units_written layout c.replies c.blocks) begun)
        → ((new ≡ old) ⊎ ((c : Copied layout s from) × (new ≡ after_all (events_before_trailer layout cluster c.replies c.blocks) old))) × OverTold old (λ image. OverShown s.file from (λ shown. first_refusal (blank_tests image ++ unit_tests layout shown (memory s)) ≡ Some e))
    units_refused e new copies = (inr (copies.1, behind_ring copies.1.replies copies.1.blocks new copies.2), planned_refused e blank copies.0)

    -- the units are of this layout
    abbrev Stops : (new : Option Told) → Layout → Ending → Type 0
    Stops new l e = StopsBehind {X = Copied l s from} s.file from (λ c.
        units_written l c.replies c.blocks) (λ shown. unit_tests l shown (memory s)) begun new e

    units_end : (new : Option Told) (e : Ending) → Stops new layout e → CopiesPlanned {T = T} layout s from old new (Err e)
    units_end new TargetFails stops = record { writes = (stops.0, inl (all_then (ring_events layout cluster) (units_written layout stops.0.replies stops.0.blocks) old begun new ring stops.1)); judged = silent }
    units_end new Source stops = record { writes = inr (stops.0, behind_ring stops.0.replies stops.0.blocks new stops.1); judged = silent }
    units_end new (NotAtRest a b c) stops = let both = units_refused (NotAtRest a b c) new stops in record { writes = both.0; judged = both.1 }
    units_end new (TooFewClients a b) stops = let both = units_refused (TooFewClients a b) new stops in
        record { writes = both.0; judged = both.1 }
    units_end new (TooFewBlocks a b) stops = let both = units_refused (TooFewBlocks a b) new stops in record { writes = both.0; judged = both.1 }
    units_end new (NotBlank a) stops = let both = units_refused (NotBlank a) new stops in record { writes = both.0; judged = both.1 }
    units_end new (ReplyTooLong a b) stops = let both = units_refused (ReplyTooLong a b) new stops in record { writes = both.0; judged = both.1 }
    units_end new (BlockTooLong a b) stops = let both = units_refused (BlockTooLong a b) new stops in record { writes = both.0; judged = both.1 }
    units_end new (Damaged a b) stops = let both = units_refused (Damaged a b) new stops in record { writes = both.0; judged = both.1 }

    pub planned_units : (t n : Target) (new : Option Told) (e : Ending)
        → t.layout ≡ layout → CopiesUnits {T = T} s t n from begun new (Err e) → CopiesPlanned {T = T} layout s from old new (Err e)
    planned_units t n new e same units = units_end new e (rw same at units)

    -- all units are written, and the trailer and the superblock follow
    module _ (c : Copied layout s from) (all : IsAll c) (mid : Option Told) (units : mid ≡ after_all (units_written layout
        c.replies c.blocks) begun) (none : OverShown s.file from (λ shown. first_refusal (unit_tests layout shown (memory s)) ≡ None)) where
      abbrev trailer : List Event
      trailer = all_events (made_events layout) (trailer_of layout s (moved_from 1 c.blocks))

      abbrev ends : List Event
      ends = superblock_events layout s c.replies c.blocks

      abbrev front : List Event
      front = events_before_trailer layout cluster c.replies c.blocks

      in_one : copy_events layout s c.replies c.blocks ≡ front ++ (trailer ++ ends)
      in_one = append_assoc front trailer ends

      passed : OverTold old (λ image.
          OverShown s.file from (λ shown. first_refusal (blank_tests image ++ unit_tests layout shown (memory s)) ≡ None))
      passed = over_told old (λ image. first_refusal (blank_tests image) ≡ None) (λ image.
          OverShown s.file from (λ shown. first_refusal (blank_tests image ++ unit_tests layout shown (memory s)) ≡ None)) blank
          (λ image pass. over_by s.file from (λ shown. first_refusal (unit_tests layout shown (memory s)) ≡ None) (λ shown.
          first_refusal (blank_tests image ++ unit_tests layout shown (memory s)) ≡ None) none
          (λ shown more. behind_decides (blank_tests image) (unit_tests layout shown (memory s)) pass ∙ more))

      pub planned_done : (new : Option Told) (x : T)
          → Finishes {T = T} layout s c.replies c.blocks mid new (Ok x) → CopiesPlanned {T = T} layout s from old new (Ok x)
      planned_done new x finishes = record {
        writes = (c, all, finishes ∙ ap (after_all (trailer ++ ends)) (behind_ring c.replies c.blocks mid units) ∙ sym (after_append front (trailer ++ ends) old) ∙ ap (λ (l : List Event). after_all l old) (sym in_one));
        judged = passed;
      }

      pub planned_fails : (new : Option Told) → Finishes {T = T} layout s c.replies c.blocks mid new (Err TargetFails)
          → CopiesPlanned {T = T} layout s from old new (Err TargetFails)
      planned_fails new finishes = record {
        writes = (c, inr (all, rw (sym in_one) at (all_then front (trailer ++ ends) old mid new (behind_ring c.replies c.blocks mid units) finishes)));
        judged = silent;
      }

      -- however the trailer and the superblock end
      pub planned_ends : (new : Option Told) (r : Result T Ending) → IfErr r (λ e. e ≡ TargetFails)
          → Finishes {T = T} layout s c.replies c.blocks mid new r → CopiesPlanned {T = T} layout s from old new r
      planned_ends new (Ok x) only finishes = planned_done new x finishes
      planned_ends new (Err e) only finishes =
          subst (λ (q : Ending). CopiesPlanned {T = T} layout s from old new (Err q)) (sym only) (planned_fails new finishes)

    -- by calls that leave the source as it was
    abbrev AllCopied : Layout → Option Told → Target → Type 0
    AllCopied l mid n = (c : Copied l s from) × IsAll c × (mid ≡ after_all (units_written l c.replies c.blocks) begun) × IsTarget
        l s.file.cluster c.replies c.blocks n × OverShown s.file from (λ shown. first_refusal (unit_tests l shown (memory s)) ≡ None)

    pub planned_join : {U : Type 0} (kept : State) (t n : Target) (mid new : Option Told) (x : U) (r : Result T Ending)
        → kept ≡ s → t.layout ≡ layout → n.layout ≡ layout → CopiesUnits {T = U} s t n from begun mid (Ok x)
        → ((rs bs : List Message) → IsTarget n.layout kept.file.cluster rs bs n → length bs ≡ length (references (memory kept))
        → Finishes {T = T} n.layout kept rs bs mid new r) → IfErr r (λ e. e ≡ TargetFails) → CopiesPlanned {T = T} layout s from old new r
    planned_join kept t n mid new x r state same last units finishes only = let all : AllCopied layout mid n = rw same at units in
        let onward : (rs bs : List Message)
        → IsTarget layout s.file.cluster rs bs n → length bs ≡ length (references (memory s)) → Finishes {T = T} layout s rs bs mid new r =
        rw (← last) (rw state at finishes) in
        planned_ends all.0 all.1 mid all.2 all.4 new r only (onward all.0.replies all.0.blocks all.3 all.1.blocks)

  -- ---- the tests that read nothing

  no_test : (new : Option Told) → new ≡ old → (e : Ending) → first_refusal (rest_tests layout (memory s)) ≡ Some e
      → OverTold old (λ image. OverShown s.file from (λ shown. first_refusal (tests layout shown (memory s) image) ≡ Some e))
  no_test new same e is =
      told_all old (λ image. OverShown s.file from (λ shown. first_refusal (tests layout shown (memory s) image) ≡ Some e))
      (λ image. over_all s.file from (λ shown. first_refusal (tests layout shown (memory s) image) ≡ Some e) (λ shown.
      first_refuses (rest_tests layout (memory s)) (blank_tests image ++ unit_tests layout shown (memory s)) e is))

  pub into_refused : (new : Option Told)
      → new ≡ old → (e : Ending) → first_refusal (rest_tests layout (memory s)) ≡ Some e → CopiesInto {T = T} layout s from old new (Err e)
  into_refused new same TargetFails is =
      record { tested = inl same; writes = (nothing, inl (part_none (events_before_trailer layout cluster [] []) same)); judged = silent }
    where
      part_none : (es : List Event) → new ≡ old → AddsPart es old new
      part_none [] it = it
      part_none (e ∷ es) it = inl it
  into_refused new same Source is = record { tested = inl same; writes = inl same; judged = silent }
  into_refused new same (NotAtRest a b c) is = record { tested = inl same; writes = inl same; judged = no_test new same (NotAtRest a b c) is }
  into_refused new same (TooFewClients a b) is =
      record { tested = inl same; writes = inl same; judged = no_test new same (TooFewClients a b) is }
  into_refused new same (TooFewBlocks a b) is = record { tested = inl same; writes = inl same; judged = no_test new same (TooFewBlocks a b) is }
  into_refused new same (NotBlank a) is = record { tested = inl same; writes = inl same; judged = no_test new same (NotBlank a) is }
  into_refused new same (ReplyTooLong a b) is = record { tested = inl same; writes = inl same; judged = no_test new same (ReplyTooLong a b) is }
  into_refused new same (BlockTooLong a b) is = record { tested = inl same; writes = inl same; judged = no_test new same (BlockTooLong a b) is }
  into_refused new same (Damaged a b) is = record { tested = inl same; writes = inl same; judged = no_test new same (Damaged a b) is }

  -- they pass, and the others decide
  pub into_planned : (new : Option Told) (r : Result T Ending)
      → first_refusal (rest_tests layout (memory s)) ≡ None → CopiesPlanned layout s from old new r → CopiesInto layout s from old new r
  into_planned new r none planned = record { tested = inr none; writes = planned.writes; judged = judged r planned.judged }
    where
      joined : (image : Image) (shown : Shown)
          → first_refusal (tests layout shown (memory s) image) ≡ first_refusal (blank_tests image ++ unit_tests layout shown (memory s))
      joined image shown = behind_decides (rest_tests layout (memory s)) (blank_tests image ++ unit_tests layout shown (memory s)) none

      refused : (image : Image) (shown : Shown) (e : Ending) → first_refusal (blank_tests image ++ unit_tests layout shown (memory s))
          ≡ Some e → first_refusal (tests layout shown (memory s) image) ≡ Some e
      refused image shown e passes = joined image shown ∙ passes

      silence : Unit {0} → Unit {0}
      silence it = it

      decides : (q : Result T Ending) (image : Image) (shown : Shown) → PassesTo layout s shown image q → JudgesCopy layout s shown image q
      decides (Ok x) image shown passes = joined image shown ∙ passes
      decides (Err e) image shown passes = by_ending silence silence (refused image shown) e passes

      judged : (q : Result T Ending)
          → OverTold old (λ image. OverShown s.file from (λ shown. PassesTo layout s shown image q)) → IsCopyJudged layout s from old q
      judged q is = over_told old (λ image. OverShown s.file from (λ shown. PassesTo layout s shown image q)) (λ image.
          OverShown s.file from (λ shown. JudgesCopy layout s shown image q)) is (λ image over. over_by s.file from (λ shown.
          PassesTo layout s shown image q) (λ shown. JudgesCopy layout s shown image q) over (λ shown passes. decides q image shown passes))
