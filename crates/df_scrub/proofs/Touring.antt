-- A tour on its way: what is listed so far, with what is left, is all that fails.
use Rattle.std.proofs.{Common.{◌≡◌, ℕ, ◌+◌, ◌<◌, ◌≤◌, List, [], ◌∷◌, ◌++◌, length, Option, Some, None, refl, sym, ◌∙◌, ap, subst, arith}, lemmas.List.{append-nil, append_assoc}}
use Rattle.{df_disk.specs.Told.{Told}, df_layout.specs.declared.damage.Finding.{Finding}, df_grid.specs.Grid.{GridState, referenced_of}}
use Rattle.df_model.{specs.{Work.{first_tour}, After.{newest}, Reading.{with_finding}, declared.answers.Scrubbed.{Scrubbed}, declared.answers.Scrubbed.TheVariants.{Checked, TourEnd}, declared.answers.Verdict.{Verdict}, declared.answers.Verdict.TheVariants.{Sound, Failing}}, proofs.Laws.{above, all_above, is_next, newest_keeps, newest_short, rising_few, put_first}}
use Rattle.df_scrub.{specs.{Scrubber.{IsStep, IsVerdict, ScrubState, after_scrub_step, left_in, with_check}, Tours.{ListsSoFar, failing_among}}, proofs.Checks.{referenced_rise}}

-- so far: the tour counts what it checked, the ring took what is listed, and no more is listed than was checked
pub record IsTouring (g : GridState) (told : Option Told) (start : List Finding) (s : ScrubState) (report : List Finding) (size : ℕ) : Type
    0 where
  pub so_far : ListsSoFar g told s report
  pub counted : length (referenced_of g) ≡ s.tour.checked + length (left_in g s)
  pub listed : size ≤ s.tour.checked
  pub findings : s.findings ≡ newest (start ++ report)

-- ---- at the start

-- a step over the grid and the disk that there were at the start
pub same_step : (g h : GridState) (told now : Option Told) (s t : ScrubState) (answer is : Scrubbed)
    → h ≡ g → now ≡ told → answer ≡ is → IsStep h s t now answer → IsStep g s t told is
same_step g h told now s t answer is grid same found step = subst (λ (k : GridState). IsStep k s t told is)
    grid (subst (λ (d : Option Told). IsStep h s t d is) same (subst (λ (a : Scrubbed). IsStep h s t now a) found step))

begun : (g : GridState) (told : Option Told) (s : ScrubState)
    → length s.findings ≤ 64 → IsTouring g told s.findings (record s { tour = first_tour }) [] 0
begun g told s short = let all : left_in g (record s { tour = first_tour }) ≡ referenced_of g =
    all_above 0 1 (1 + g.layout.blocks) (referenced_of g) (omega arith) (referenced_rise g) in record {
      so_far = lists told all;
      counted = sym (ap length all) ∙ let e : length (left_in g (record s { tour = first_tour }))
          ≡ 0 + length (left_in g (record s { tour = first_tour })) = omega arith in e;
      listed = omega arith;
      findings = sym (newest_short s.findings short) ∙ ap newest (sym (append-nil s.findings));
    }
  where
    lists : (told : Option Told)
        → left_in g (record s { tour = first_tour }) ≡ referenced_of g → ListsSoFar g told (record s { tour = first_tour }) []
    lists None all = tt
    lists (Some t) all = ap (λ (xs : List (ℕ × ℕ)). failing_among g t.shown xs) (sym all)

pub begins : (g : GridState) (told : Option Told) (s t : ScrubState) (report : List Finding) (size : ℕ)
    → t ≡ record s { tour = first_tour } → length t.findings ≤ 64 → report ≡ [] → size ≡ 0 → IsTouring g told s.findings t report size
begins g told s t report size after short none zero =
    let few : length s.findings ≤ 64 = subst (λ (u : ScrubState). length u.findings ≤ 64) after short in
    subst (λ (u : ScrubState). IsTouring g told s.findings u report size) (sym after)
    (subst (λ (fs : List Finding). IsTouring g told s.findings (record s { tour = first_tour }) fs size) (sym none)
    (subst (λ (n : ℕ). IsTouring g told s.findings (record s { tour = first_tour }) [] n) (sym zero) (begun g told s few)))

-- ---- after a check

check_last : (s : ScrubState) (a : ℕ) (v : Verdict) → (with_check s a v).tour.last ≡ a
check_last s a Sound = refl
check_last s a (Failing class) = refl

check_counts : (s : ScrubState) (a : ℕ) (v : Verdict) → (with_check s a v).tour.checked ≡ s.tour.checked + 1
check_counts s a Sound = refl
check_counts s a (Failing class) = refl

check_finds : (s : ScrubState) (start report : List Finding) (a : ℕ) (v : Verdict)
    → s.findings ≡ newest (start ++ report) → (with_check s a v).findings ≡ newest (start ++ (report ++ with_finding a v []))
check_finds s start report a Sound found = found ∙ ap (λ (fs : List Finding). newest (start ++ fs)) (sym (append-nil report))
check_finds s start report a (Failing class) found = let f : Finding = record { address = a; «class» = class } in
    ap (λ (fs : List Finding). newest (fs ++ f ∷ [])) found
    ∙ newest_keeps (start ++ report) (f ∷ []) ∙ ap newest (append_assoc start report (f ∷ []))

-- what a check leaves, where this is left before it
pub record IsChecked (g : GridState) (told : Option Told) (s t : ScrubState) (x : ℕ × ℕ) (more : List (ℕ × ℕ)) (v : Verdict) : Type 0 where
  pub left : left_in g s ≡ x ∷ more
  pub after : t ≡ with_check s x.0 v
  pub rest : left_in g t ≡ more
  pub verdict : IsVerdict g told (x ∷ more) v

was_checked : (g : GridState) (told : Option Told) (s t : ScrubState) (a : ℕ) (v : Verdict) (xs : List (ℕ × ℕ))
    → left_in g s ≡ xs → IsVerdict g told xs v → after_scrub_step s v xs ≡ (t, Checked a v)
    → (x : ℕ × ℕ) × (more : List (ℕ × ℕ)) × (a ≡ x.0) × IsChecked g told s t x more v
was_checked g told s t a v [] left verdict goes =
    absurd (let answer : TourEnd s.tour.checked s.tour.failing ≡ Checked a v = ap (λ (p : ScrubState × Scrubbed). p.1) goes in cc)
was_checked g told s t a v (x ∷ more) left verdict goes =
    let after : with_check s x.0 v ≡ t = ap (λ (p : ScrubState × Scrubbed). p.0) goes in
    let answer : Checked x.0 v ≡ Checked a v = ap (λ (p : ScrubState × Scrubbed). p.1) goes in let same : a ≡ x.0 = cc in (
      x,
      more,
      same,
      record {
        left = left;
        after = sym after;
        rest = ap (λ (u : ScrubState). left_in g u) (sym after) ∙ ap (λ (n : ℕ). above n (referenced_of g)) (check_last s x.0 v)
            ∙ (is_next s.tour.last 1 (1 + g.layout.blocks) (referenced_of g) x more (referenced_rise g) left).behind;
        verdict = verdict;
      },
    )

pub one_checked : (g : GridState) (told : Option Told) (s t : ScrubState) (a : ℕ) (v : Verdict)
    → IsStep g s t told (Checked a v) → (x : ℕ × ℕ) × (more : List (ℕ × ℕ)) × (a ≡ x.0) × IsChecked g told s t x more v
one_checked g told s t a v step = was_checked g told s t a v (left_in g s) refl step.verdict step.goes

-- fewer are left than before
pub fewer : (g : GridState) (told : Option Told) (s t : ScrubState) (a : ℕ) (v : Verdict)
    → IsStep g s t told (Checked a v) → length (left_in g t) < length (left_in g s)
fewer g told s t a v step = let is = (one_checked g told s t a v step).3 in omega (arith, ap length is.left, ap length is.rest)

-- the list has room for one more
pub has_room : (g : GridState) (told : Option Told) (start : List Finding) (s t : ScrubState) (report : List Finding)
    (size a : ℕ) (v : Verdict) → IsTouring g told start s report size → IsStep g s t told (Checked a v) → size < g.layout.blocks
has_room g told start s t report size a v so step = let is = (one_checked g told s t a v step).3 in
    omega (arith, so.counted, so.listed, ap length is.left, rising_few 1 (1 + g.layout.blocks) (referenced_of g) (omega arith) (referenced_rise g))

lists_on : (g : GridState) (told : Option Told) (s t : ScrubState) (report : List Finding) (x : ℕ × ℕ) (more : List (ℕ × ℕ)) (v : Verdict)
    → ListsSoFar g told s report → IsChecked g told s t x more v → ListsSoFar g told t (report ++ with_finding x.0 v [])
lists_on g None s t report x more v lists is = tt
lists_on g (Some d) s t report x more v lists is = let rest = failing_among g d.shown more in
    lists ∙ ap (λ (xs : List (ℕ × ℕ)). report ++ failing_among g d.shown xs) is.left
    ∙ ap (λ (w : Verdict). report ++ with_finding x.0 w rest) (sym is.verdict)
    ∙ ap (λ (fs : List Finding). report ++ fs) (put_first x.0 v rest) ∙ sym (append_assoc report (with_finding x.0 v []) rest)
    ∙ ap (λ (xs : List (ℕ × ℕ)). (report ++ with_finding x.0 v []) ++ failing_among g d.shown xs) (sym is.rest)

goes_case : (g : GridState) (told : Option Told) (start : List Finding) (s t : ScrubState)
    (report : List Finding) (size more_size : ℕ) (x : ℕ × ℕ) (more : List (ℕ × ℕ)) (v : Verdict) → IsTouring g told start s report size
    → IsChecked g told s t x more v → more_size ≤ size + 1 → IsTouring g told start t (report ++ with_finding x.0 v []) more_size
goes_case g told start s t report size more_size x more v so is one =
    let count : t.tour.checked ≡ s.tour.checked + 1 = ap (λ (u : ScrubState). u.tour.checked) is.after ∙ check_counts s x.0 v in record {
      so_far = lists_on g told s t report x more v so.so_far is;
      counted = let e : length (referenced_of g) ≡ t.tour.checked + length (left_in g t) =
          omega (arith, so.counted, ap length is.left, ap length is.rest, count) in e;
      listed = omega (arith, so.listed, one, count);
      findings = ap (λ (u : ScrubState). u.findings) is.after ∙ check_finds s start report x.0 v so.findings;
    }

pub goes_on : (g : GridState) (told : Option Told) (start : List Finding) (s t : ScrubState) (report listed : List Finding)
    (size more_size a : ℕ) (v : Verdict) → IsTouring g told start s report size → IsStep g s t told (Checked a v)
    → listed ≡ report ++ with_finding a v [] → more_size ≤ size + 1 → IsTouring g told start t listed more_size
goes_on g told start s t report listed size more_size a v so step lists one = let found = one_checked g told s t a v step in
    subst (λ (fs : List Finding). IsTouring g told start t fs more_size) (sym (lists ∙ ap (λ (n : ℕ). report ++ with_finding n v []) found.2))
    (goes_case g told start s t report size more_size found.0 found.1 v so found.3 one)
