-- A referenced block, as a turn over the addresses.
use Rattle.std.{proofs.{Common.{◌≡◌, ℕ, ◌+◌, ◌<◌, List, Option, Some, None, sym, ◌∙◌, ap, arith, inl, inr}, lemmas.Bool.{cases_eq}, lemmas.Option.{same_Some}}, specs.Prelude.{Result, Ok, Err, IfOk, OnOk}}
use Rattle.{df_disk.specs.Told.{Told}, df_buffers.specs.{declared.identity.Identity.{Identity}, Sounds.{Holding}}}
use Rattle.df_format.specs.{declared.kind.Kind.{Kind}, declared.kind.Kind.TheVariants.{Block as AsBlock, Prepare, Reply, Trailer}, Spelling.{IsCheck}}
use Rattle.{df_model.specs.Blocks.{sum_at}, df_sessions.specs.declared.session.Session.{Session}, df_units.specs.Meaning.{number_of}}
use Rattle.df_theory.specs.{Trailer.{InChain}, Units.{Block, BlockPlace, Parts, Place, PreparePlace, ReplyPlace, Units}}
use Rattle.{df_grid.specs.{Grid.{GridState}, Reads.{at_address}}, df_opening.specs.Below.{shape}}
use Rattle.df_mirror.{specs.{declared.ending.Ending.{Ending}, declared.superblock.Superblock.{Superblock}, Known.{ComesBefore, IsDue, IsKnownAt, IsShownAs, IsSparePlace}, Mends.{AreOfKind}, Outside.{Outside, Tell}, Taking.{HoldsShown, MendsUnit}, Walks.{HasTrailerText, HasWaiting, Mended, ShowsBlocks, content_of_superblock, superblock_units}}, proofs.{Chains.{all_of_it, shown_block}, Frames.{other_place}, Ones.{one_trailer, trailer_passes, trailer_there, wanted_block}, Turns.{MendsDue, due_mended, of_one}}}

-- a place that is as it was shows what it did
pub shown_there : (image other : Units) (kind : Kind) (place : Place) (sum : ℕ)
    → other place ≡ image place → IsShownAs image kind place sum → IsShownAs other kind place sum
shown_there image other kind place sum same is = record { unit = is.unit; shown = same ∙ is.shown; of_kind = is.of_kind; sum_is = is.sum_is }

-- nothing is referenced at the next address
pub block_none : (b : Superblock) (grid : GridState) (ss : List Session) (before : ℕ) (image : Units)
    → ShowsBlocks b image grid ss before → sum_at (before + 1) grid.blocks.live ≡ None → ShowsBlocks b image grid ss (before + 1)
block_none b grid ss before image shows none = record {
  has = shows.has;
  waiting = shows.waiting;
  shown = λ a sum to known. elim (cases_eq a (before + 1)) [
    | inl here ↦ absurd (let no : None ≡ Some sum = sym none ∙ ap (λ (n : ℕ). sum_at n grid.blocks.live) (sym here) ∙ known in cc)
    | inr other ↦ shows.shown a sum (omega (arith, to, other)) known
  ];
}

module _ (b : Superblock) (grid : GridState) (ss : List Session) (before : ℕ) (t o : Told)
    (shows : ShowsBlocks b (superblock_units b t.shown) grid ss before) where
  module _ (check : List ℕ) (live : sum_at (before + 1) grid.blocks.live ≡ Some (number_of check)) where
    referenced : shows.has.says.parts.references (before + 1) ≡ Some (number_of check)
    referenced = sym (shows.has.live (before + 1)) ∙ live

    -- no block of the chain stands there
    apart : (e : ℕ) (x : Block) → InChain e x shows.has.says.chain → e ≡ before + 1 → ⊥
    apart e x at same = let no : None ≡ Some (number_of check) =
        sym (shows.has.says.trailer.spare e x at) ∙ ap shows.has.says.parts.references same ∙ referenced in cc

    spare : (IsShownAs (superblock_units b t.shown) AsBlock (BlockPlace (before + 1)) (number_of check) → ⊥)
        → IsSparePlace (shape b.file) (superblock_units b t.shown) (content_of_superblock b) (BlockPlace (before + 1))
    spare lacks = at_kind
      where
        at_kind : (kind : Kind) (at : Place) (sum : ℕ) → IsKnownAt (shape b.file) (superblock_units b t.shown)
            (content_of_superblock b) kind at sum → IsShownAs (superblock_units b t.shown) kind at sum → at ≡ BlockPlace (before + 1) → ⊥
        at_kind Trailer (BlockPlace e) sum known shown same =
            let there = wanted_block (shape b.file) (superblock_units b t.shown) (content_of_superblock b) shows.has.says e sum known in
            apart e there.0 there.1 (cc)
        at_kind AsBlock (BlockPlace e) sum known shown same = let place : e ≡ before + 1 = cc in
            let parts = one_trailer (shape b.file) (superblock_units b t.shown) (content_of_superblock b) known.says shows.has.says in
            let both : Some sum ≡ Some (number_of check) =
            sym known.reference ∙ ap (λ (p : Parts). p.references e) parts ∙ ap shows.has.says.parts.references place ∙ referenced in
            let one : sum ≡ number_of check = same_Some _ _ both in lacks (rw one at (rw same at shown))
        at_kind Prepare (PreparePlace s) sum known shown same = cc
        at_kind Reply (ReplyPlace k) sum known shown same = cc
        at_kind kind at sum known shown same = absurd known

    block_due : IsDue (shape b.file) (superblock_units b t.shown) (content_of_superblock b) AsBlock (BlockPlace (before + 1)) (number_of check)
    block_due = record { known = record { says = shows.has.says; reference = referenced }; first = first; trailer = trailer_passes b (superblock_units b t.shown) grid ss shows.has shows.waiting; spare = spare }
      where
        -- the trailer, and the blocks at lower addresses
        first : (kind : Kind) (at : Place) (sum : ℕ) → ComesBefore kind AsBlock at (BlockPlace (before + 1)) → IsKnownAt (shape b.file)
            (superblock_units b t.shown) (content_of_superblock b) kind at sum → IsShownAs (superblock_units b t.shown) kind at sum
        first Trailer (BlockPlace e) sum comes known = shown_block (superblock_units b t.shown)
            e sum (all_of_it (shape b.file) (superblock_units b t.shown) (content_of_superblock b) shows.has.says e sum known)
        first AsBlock (BlockPlace e) sum comes known = let less : e < before + 1 = comes in
            let parts = one_trailer (shape b.file) (superblock_units b t.shown) (content_of_superblock b) known.says shows.has.says in
            shows.shown e sum (omega (arith, less)) (shows.has.live e ∙ ap (λ (p : Parts). p.references e) (sym parts) ∙ known.reference)
        first Prepare at sum comes known = absurd (let less : 3 < 2 = comes in omega (arith, less))
        first Reply at sum comes known = absurd (let less : 4 < 2 = comes in omega (arith, less))
        first kind at sum comes known = absurd known

    module _ (identity : Identity) (is : identity ≡ at_address b.file.layout b.file.cluster (before + 1) check)
        (fits : IsCheck check) (old new : Outside) (tell : Tell t o old) (shelf : Option Holding) where
      one_more : (result : Result ℕ Ending) → MendsDue b AsBlock (BlockPlace (before + 1)) check t o old new shelf result
          → (m : Told) → new.first ≡ Some m → OnOk result (ShowsBlocks b (superblock_units b m.shown) grid ss (before + 1))
      one_more (Err e) mends m is = tt
      one_more (Ok more) mends m is =
          let same : (e : ℕ) → (e ≡ before + 1 → ⊥) → superblock_units b m.shown (BlockPlace e) ≡ superblock_units b t.shown (BlockPlace e) =
          λ e other. other_place b.file (content_of_superblock b) t o m new.first old.written new.written tell.whole is (BlockPlace e)
          AsBlock (BlockPlace (before + 1)) more mends.answers (λ (one : BlockPlace (before + 1) ≡ BlockPlace e). other (cc)) in record {
            has = record {
              says = trailer_there (shape b.file) (superblock_units b t.shown)
                  (superblock_units b m.shown) (content_of_superblock b) shows.has.says (λ e x at. same e (apart e x at));
              inside = shows.has.inside;
              live = shows.has.live;
              sessions_are = shows.has.sessions_are;
            };
            waiting = shows.waiting;
            shown = λ a sum to known. elim (cases_eq a (before + 1)) [
              | inl here ↦ let it = (mends.shows m is).2 in
                  let one : number_of check ≡ sum = same_Some _ _ (sym live ∙ ap (λ (n : ℕ). sum_at n grid.blocks.live) (sym here) ∙ known) in
                  rw here (record { unit = it.unit; shown = it.shown; of_kind = it.of_kind; sum_is = it.sum_is ∙ one })
              | inr other ↦ shown_there (superblock_units b t.shown) (superblock_units b m.shown)
                  AsBlock (BlockPlace a) sum (same a other) (shows.shown a sum (omega (arith, to, other)) known)
            ];
          }

      -- the block that is referenced is mended
      pub block_mended : (result : Result ℕ Ending)
          → MendsUnit AsBlock identity old new result → IfOk result (λ n. HoldsShown AsBlock identity old.first new.first shelf)
          → Mended b (AreOfKind AsBlock) t o old new result (λ image. ShowsBlocks b image grid ss (before + 1))
      block_mended result mends shown = let due = due_mended b AsBlock (BlockPlace (before + 1))
          check identity (record { is = is; stands = tt; fits = fits }) t o old new tell shelf block_due result mends shown in
          of_one b AsBlock (BlockPlace (before + 1)) t o old new result (λ image.
          ShowsBlocks b image grid ss (before + 1)) due.answers (one_more result due)

-- no address is 0
pub none_yet : (b : Superblock) (grid : GridState) (ss : List Session) (t : Told)
    → HasTrailerText b (superblock_units b t.shown) grid ss × HasWaiting b ss → ShowsBlocks b (superblock_units b t.shown) grid ss 0
none_yet b grid ss t has = record {
  has = has.0;
  waiting = has.1;
  shown = λ a sum to known. absurd (let above = (has.0.inside a sum (sym (has.0.live a) ∙ known)).0 in omega (arith, above, to));
}
