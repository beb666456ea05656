-- A tour on its way: what is listed so far, with what is left to be checked, is all that fails.
use Rattle.std.{proofs.{Common.{◌≡◌, inl, inr, ℕ, zero, suc, ◌+◌, ◌<◌, List, [], ◌∷◌, ◌++◌, length, Option, Some, refl, sym, ◌∙◌, ap, subst, arith, append_assoc, length-append}, lemmas.List.{append-nil}}, specs.Prelude.{Ok}}
use Rattle.df_base.{specs.Streams.{Appends, AppendsPart}, proofs.Laws.{appends_more, appends_part, part_of_more}}
use Rattle.{df_disk.specs.Told.{Told}, df_inspect.specs.Reports.{failing_text, failing_texts}, df_script_model.specs.Texts.{scrubbed_text}}
use Rattle.df_layout.specs.declared.damage.Finding.{Finding}
use Rattle.df_model.{specs.{Reading.{with_finding}, Work.{Tour, first_tour}, declared.answers.Scrubbed.{Scrubbed}, declared.answers.Scrubbed.TheVariants.{Checked, TourEnd}, declared.answers.Verdict.{Verdict}}, proofs.Laws.{above, all_above, put_first}}
use Rattle.df_session.specs.{Below.{ScrubState, State as Replica}, Scrubbing.{IsScrub, scrub_of, with_scrub}}
use Rattle.df_top.{specs.{Scrubs.{PrintsTour, failing_blocks, tour_report, tour_status}, Touring.{EndsTour, TakesStep, TellsStep, TellsTourFound}, declared.status.Status.{Status}, declared.status.Status.TheVariants.{DiskFault, Done, Found, WriteFault}, Outside.{Turn}, Turning.{BlamesIfEnds}}, proofs.Checks.{IsChecked, IsEnded, IsStepOf, check_counts, check_fails, checked, ended, failing_of, left_of, referenced, referenced_rise}}
use Rattle.df_program.{specs.declared.turn.Turn.TheVariants.{Ends, GoesOn}, proofs.Laws.{no_blame}}

-- ---- what is printed

texts_join : (xs ys : List Finding) → failing_texts (xs ++ ys) ≡ failing_texts xs ++ failing_texts ys
texts_join [] ys = refl
texts_join (x ∷ xs) ys =
    ap (λ (l : List ℕ). failing_text x ++ l) (texts_join xs ys) ∙ sym (append_assoc (failing_text x) (failing_texts xs) (failing_texts ys))

-- ---- the tour

-- so far: these are listed, with what is left they are all that fails, the tour counts what it checked and listed, and their lines are
-- printed
pub record IsTouring (s : Replica) (t : Told) (u : ScrubState) (old new : Option (List ℕ)) : Type 0 where
  pub listed : List Finding
  pub so_far : failing_blocks s t.shown ≡ listed ++ failing_of s t.shown (left_of s u)
  pub counted : length (referenced s) ≡ u.tour.checked + length (left_of s u)
  pub failing : u.tour.failing ≡ length listed
  pub printed : Appends old new (failing_texts listed)

-- at the start of a tour all is left
pub starts : (s : Replica) (t : Told) (old : Option (List ℕ)) → s.tour ≡ first_tour → Appends old old [] → IsTouring s t (scrub_of s) old old
starts s t old first none = let all : left_of s (scrub_of s) ≡ referenced s = ap (λ (x : Tour). above x.last (referenced s)) first
    ∙ all_above 0 1 (1 + s.file.layout.blocks) (referenced s) (omega arith) (referenced_rise s) in record {
      listed = [];
      so_far = ap (λ (xs : List (ℕ × ℕ)). failing_of s t.shown xs) (sym all);
      counted = omega (arith, ap length all, ap (λ (x : Tour). x.checked) first);
      failing = ap (λ (x : Tour). x.failing) first;
      printed = none;
    }

-- a step over the grid that there was at the start
step_of : (s u v : Replica) (told : Option Told) (x : Scrubbed)
    → u ≡ with_scrub s (scrub_of u) → IsScrub u v told (Ok x) → IsStepOf s (scrub_of u) (scrub_of v) told x
step_of s u v told x same is = subst (λ (k : Replica). IsStepOf k (scrub_of u) (scrub_of v) told x) same is.1

-- nothing but the scrubber has moved since then
pub same_on : (s u v : Replica) (told : Option Told) (x : Scrubbed)
    → u ≡ with_scrub s (scrub_of u) → IsScrub u v told (Ok x) → v ≡ with_scrub s (scrub_of v)
same_on s u v told x same is = is.0 ∙ ap (λ (r : Replica). with_scrub r (scrub_of v)) same

-- a check leaves fewer
pub fewer : (u v : Replica) (told : Option Told) (a : ℕ) (w : Verdict)
    → IsScrub u v told (Ok (Checked a w)) → length (left_of v (scrub_of v)) < length (left_of u (scrub_of u))
fewer u v told a w is = let c = checked u told (scrub_of u) (scrub_of v) a w is.1 in
    let grids : left_of v (scrub_of v) ≡ left_of u (scrub_of v) = ap (λ (r : Replica). left_of r (scrub_of v)) is.0 in
    omega (arith, ap length c.left, ap length c.rest, ap length grids)

-- where a tour goes on, a block was checked and what it lists is printed
pub went_on : (u v : Replica) (told : Option Told) (mid new : Option (List ℕ)) → TakesStep u v told mid new GoesOn
    → (a : ℕ) × (w : Verdict) × IsScrub u v told (Ok (Checked a w)) × Appends mid new (failing_texts (with_finding a w []))
went_on u v told mid new (inl (Checked a w, is, inl one)) = (a, w, is, one.1)
went_on u v told mid new (inl (TourEnd n f, is, inl one)) = absurd (let no : GoesOn ≡ Ends (tour_status f) = one.0 in cc)
went_on u v told mid new (inl (x, is, inr part)) = absurd (let no : GoesOn ≡ Ends WriteFault = part.0 in cc)
went_on u v told mid new (inr failed) = absurd (let no : GoesOn ≡ Ends DiskFault = failed.0 in cc)

module _ (s : Replica) (t : Told) where
  abbrev fails : List (ℕ × ℕ) → List Finding
  fails xs = failing_of s t.shown xs

  lists_on : (u v : ScrubState) (listed : List Finding) (a : ℕ) (w : Verdict) → failing_blocks s t.shown ≡ listed ++ fails (left_of s u)
      → IsChecked s (Some t) u v a w → failing_blocks s t.shown ≡ (listed ++ with_finding a w []) ++ fails (left_of s v)
  lists_on u v listed a w so_far is = so_far ∙ ap (λ (xs : List (ℕ × ℕ)). listed ++ fails xs) is.left
      ∙ ap (λ (z : Verdict). listed ++ with_finding is.x.0 z (fails is.more)) (sym is.verdict)
      ∙ ap (λ (n : ℕ). listed ++ with_finding n w (fails is.more)) (sym is.address)
      ∙ ap (λ (fs : List Finding). listed ++ fs) (put_first a w (fails is.more))
      ∙ sym (append_assoc listed (with_finding a w []) (fails is.more))
      ∙ ap (λ (xs : List (ℕ × ℕ)). (listed ++ with_finding a w []) ++ fails xs) (sym is.rest)

  pub goes_on : (u v : Replica) (old mid new : Option (List ℕ)) (a : ℕ) (w : Verdict)
      → u ≡ with_scrub s (scrub_of u) → IsTouring s t (scrub_of u) old mid → IsScrub u v (Some t) (Ok (Checked a w))
      → Appends mid new (failing_texts (with_finding a w [])) → IsTouring s t (scrub_of v) old new
  goes_on u v old mid new a w same so is printed =
      let c = checked s (Some t) (scrub_of u) (scrub_of v) a w (step_of s u v (Some t) (Checked a w) same is) in
      let count : v.tour.checked ≡ u.tour.checked + 1 = ap (λ (z : ScrubState). z.tour.checked) c.after ∙ check_counts (scrub_of u) a w in
      let found : v.tour.failing ≡ u.tour.failing + length (with_finding a w []) =
      ap (λ (z : ScrubState). z.tour.failing) c.after ∙ check_fails (scrub_of u) a w in record {
        listed = so.listed ++ with_finding a w [];
        so_far = lists_on (scrub_of u) (scrub_of v) so.listed a w so.so_far c;
        counted = omega (arith, so.counted, count, ap length c.left, ap length c.rest);
        failing = omega (arith, so.failing, found, length-append so.listed (with_finding a w []));
        printed = rw (sym (texts_join so.listed (with_finding a w []))) at
            (appends_more old mid new (failing_texts so.listed) (failing_texts (with_finding a w [])) so.printed printed);
      }

  -- ---- its end

  abbrev end_text : List ℕ
  end_text = scrubbed_text (TourEnd (length (referenced s)) (length (failing_blocks s t.shown)))

  module _ (u v : Replica) (old mid new : Option (List ℕ)) (same : u ≡ with_scrub s (scrub_of u)) (so : IsTouring s t (scrub_of u) old mid) where
    module _ (n f : ℕ) (is : IsScrub u v (Some t) (Ok (TourEnd n f))) where
      end_is : IsEnded s (scrub_of u) n f
      end_is = ended s (Some t) (scrub_of u) (scrub_of v) n f (step_of s u v (Some t) (TourEnd n f) same is)

      list_is : failing_blocks s t.shown ≡ so.listed
      list_is = so.so_far ∙ ap (λ (xs : List (ℕ × ℕ)). so.listed ++ fails xs) end_is.left ∙ append-nil so.listed

      count_is : n ≡ length (referenced s)
      count_is = omega (arith, end_is.counts, so.counted, ap length end_is.left)

      fails_is : f ≡ length (failing_blocks s t.shown)
      fails_is = end_is.fails ∙ so.failing ∙ ap length (sym list_is)

      report_is : failing_texts so.listed ++ scrubbed_text (TourEnd n f) ≡ tour_report s t.shown
      report_is = ap (λ (l : List Finding). failing_texts l ++ scrubbed_text (TourEnd n f)) (sym list_is)
          ∙ ap (λ (k : ℕ). failing_texts (failing_blocks s t.shown) ++ scrubbed_text (TourEnd k f)) count_is
          ∙ ap (λ (k : ℕ). failing_texts (failing_blocks s t.shown) ++ scrubbed_text (TourEnd (length (referenced s)) k)) fails_is

      whole : Appends mid new (scrubbed_text (TourEnd n f)) → Appends old new (tour_report s t.shown)
      whole last = subst (λ (l : List ℕ).
          Appends old new l) report_is (appends_more old mid new (failing_texts so.listed) (scrubbed_text (TourEnd n f)) so.printed last)

      part : AppendsPart mid new (scrubbed_text (TourEnd n f)) → AppendsPart old new (tour_report s t.shown)
      part last = subst (λ (l : List ℕ). AppendsPart old new l)
          report_is (appends_part old mid new (failing_texts so.listed) (scrubbed_text (TourEnd n f)) so.printed last)

    module _ (a : ℕ) (w : Verdict) (is : IsScrub u v (Some t) (Ok (Checked a w))) where
      check_is : IsChecked s (Some t) (scrub_of u) (scrub_of v) a w
      check_is = checked s (Some t) (scrub_of u) (scrub_of v) a w (step_of s u v (Some t) (Checked a w) same is)

      abbrev so_long : List ℕ
      so_long = failing_texts so.listed ++ failing_texts (with_finding a w [])

      abbrev behind : List ℕ
      behind = failing_texts (fails (left_of s (scrub_of v))) ++ end_text

      longer_is : so_long ++ behind ≡ tour_report s t.shown
      longer_is = let rest = fails (left_of s (scrub_of v)) in sym (append_assoc so_long (failing_texts rest) end_text)
          ∙ ap (λ (l : List ℕ). (l ++ failing_texts rest) ++ end_text) (sym (texts_join so.listed (with_finding a w [])))
          ∙ ap (λ (l : List ℕ). l ++ end_text) (sym (texts_join (so.listed ++ with_finding a w []) rest))
          ∙ ap (λ (l : List Finding). failing_texts l ++ end_text) (sym (lists_on (scrub_of u) (scrub_of v) so.listed a w so.so_far check_is))

      cut : AppendsPart mid new (failing_texts (with_finding a w [])) → AppendsPart old new (tour_report s t.shown)
      cut last = subst (λ (l : List ℕ). AppendsPart old new l) longer_is (part_of_more
          old new so_long behind (appends_part old mid new (failing_texts so.listed) (failing_texts (with_finding a w [])) so.printed last))

    pub ends : (status : Status) → TakesStep u v (Some t) mid new (Ends status) → PrintsTour s t.shown old new status
    ends status (inl (Checked a w, is, inl one)) = absurd (let no : Ends status ≡ GoesOn = one.0 in cc)
    ends status (inl (TourEnd n f, is, inl one)) = let ends_so : Ends status ≡ Ends (tour_status f) = one.0 in
        let found : status ≡ tour_status f = cc in inl (inl (found ∙ ap tour_status (fails_is n f is), whole n f is one.1))
    ends status (inl (Checked a w, is, inr last)) = let no : Ends status ≡ Ends WriteFault = last.0 in inl (inr (cc, cut a w is last.1))
    ends status (inl (TourEnd n f, is, inr last)) = let no : Ends status ≡ Ends WriteFault = last.0 in inl (inr (cc, part n f is last.1))
    ends status (inr failed) = let no : Ends status ≡ Ends DiskFault = failed.0 in inr (record {
      fault = cc;
      listed = so.listed;
      left = fails (left_of s (scrub_of u));
      front = so.so_far;
      prints = rw (sym failed.1) at so.printed;
    })

-- ---- the statuses

pub ends_so : (u v : Replica) (told : Option Told) (mid new : Option (List ℕ)) (status : Status)
    → TakesStep u v told mid new (Ends status) → EndsTour status
ends_so u v told mid new status (inl (Checked a w, is, inl one)) = absurd (let no : Ends status ≡ GoesOn = one.0 in cc)
ends_so u v told mid new status (inl (TourEnd n f, is, inl one)) = let so : Ends status ≡ Ends (tour_status f) = one.0 in
    subst EndsTour (let e : tour_status f ≡ status = cc in e) (by_count f)
  where
    by_count : (f : ℕ) → EndsTour (tour_status f)
    by_count zero = tt
    by_count (suc more) = tt
ends_so u v told mid new status (inl (x, is, inr last)) = let so : Ends status ≡ Ends WriteFault = last.0 in
    subst EndsTour (let e : WriteFault ≡ status = cc in e) tt
ends_so u v told mid new status (inr failed) = let so : Ends status ≡ Ends DiskFault = failed.0 in
    subst EndsTour (let e : DiskFault ≡ status = cc in e) tt

pub never_so : (status other : Status) → EndsTour status → (EndsTour other → ⊥) → status ≡ other → ⊥
never_so status other ends none is = none (subst EndsTour is ends)

-- ---- the faults

-- no step that is told ends in a fault of the disk
calm : (x : Scrubbed) (old new : Option (List ℕ)) (status : Status) → TellsStep x old new (Ends status) → status ≡ DiskFault → ⊥
calm (Checked a w) old new status (inl one) is = let no : Ends status ≡ GoesOn = one.0 in cc
calm (TourEnd n zero) old new status (inl one) is = let so : Ends status ≡ Ends Done = one.0 in let no : Done ≡ DiskFault = cc in cc
calm (TourEnd n (suc more)) old new status (inl one) is = let so : Ends status ≡ Ends Found = one.0 in let no : Found ≡ DiskFault = cc in cc
calm x old new status (inr last) is = let so : Ends status ≡ Ends WriteFault = last.0 in let no : WriteFault ≡ DiskFault = cc in cc

pub disk_still : (x : Scrubbed) (old new : Option (List ℕ)) (before now : ℕ) (turn : Turn)
    → TellsStep x old new turn → now ≡ before → BlamesIfEnds DiskFault before now turn
disk_still x old new before now GoesOn tells same = same
disk_still x old new before now (Ends status) tells same = no_blame DiskFault before now status same (calm x old new status tells)

-- where the disk failed in a step, what was found before has its lines
pub found_told : (s : Replica) (t : Told) (u v : Replica) (told : Option Told) (old mid new : Option (List ℕ))
    → IsTouring s t (scrub_of u) old mid → TakesStep u v told mid new (Ends DiskFault) → TellsTourFound v.tour.failing old new
found_told s t u v told old mid new so (inl (x, is, tells)) = absurd (calm x mid new DiskFault tells refl)
found_told s t u v told old mid new so (inr failed) = (
  so.listed,
  sym so.failing ∙ sym (ap (λ (x : Tour). x.failing) failed.2),
  rw (sym failed.1) at so.printed,
)
