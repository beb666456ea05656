-- A tour of the scrubber, from its start to its end.
use Rattle.std.proofs.{Common.{◌≡◌, ℕ, suc, ◌+◌, ◌-◌, ◌≤◌, List, [], ◌∷◌, ◌++◌, length, drop, refl, sym, ◌∙◌, ap, arith, length-append, length-drop}, lemmas.List.{append-nil, append_assoc, drop-append-le, drop-drop}}
use Rattle.{df_layout.specs.declared.damage.Finding.{Finding}, df_theory.specs.{Units.{Parts}, Shape.{Shape}}}
use Rattle.df_model.{specs.{Work.{Tour, Work, first_tour}, Memory.{referenced_of, memory_of}, Blocks.{blocks_of, reference_in, addresses, entries}, After.{after_check, newest, to_check, with_verdict}, Commands.{Answer, ToScrub}, Supply.{Codec, Shown, check_of, first_check, last_work, result}, Reading.{TourLaw, checks, failing, scrubs, with_finding}, declared.answers.{Verdict.{Verdict, TheVariants.{Sound, Failing}}, Scrubbed.{Scrubbed, TheVariants.{Checked, TourEnd}}}}, proofs.{Keeps.{newest_few}, Rising.{above, all_above, entries_rise, is_next}}}

-- ---- the newest 64

pub newest_keeps : (fs gs : List Finding) → newest (newest fs ++ gs) ≡ newest (fs ++ gs)
newest_keeps fs gs = let k = length fs - 64 in
    let one : newest fs ++ gs ≡ drop (length fs - 64) (fs ++ gs) = sym (drop-append-le (length fs - 64) fs gs (omega arith)) in
    let size : length (drop (length fs - 64) (fs ++ gs)) ≡ length fs + length gs - (length fs - 64) =
    length-drop (length fs - 64) (fs ++ gs) ∙ ap (λ (n : ℕ). n - (length fs - 64)) (length-append fs gs) in
    ap newest one ∙ ap (λ (n : ℕ). drop (n - 64) (drop (length fs - 64) (fs ++ gs))) size
    ∙ drop-drop (length fs + length gs - (length fs - 64) - 64) (length fs - 64) (fs ++ gs)
    ∙ ap (λ (n : ℕ). drop n (fs ++ gs)) (let e : (length fs - 64) + (length fs
    + length gs - (length fs - 64) - 64) ≡ length (fs ++ gs) - 64 = omega (arith, length-append fs gs) in e)

pub newest_short : (fs : List Finding) → length fs ≤ 64 → newest fs ≡ fs
newest_short fs short = ap (λ (n : ℕ). drop n fs) (let e : length fs - 64 ≡ 0 = omega arith in e)

-- one finding after the other goes into the ring
abbrev pub push_all : List Finding → List Finding → List Finding
push_all fs [] = fs
push_all fs (g ∷ gs) = push_all (newest (fs ++ g ∷ [])) gs

pushed : (fs gs : List Finding) → length fs ≤ 64 → push_all fs gs ≡ newest (fs ++ gs)
pushed fs [] short = sym (newest_short fs short) ∙ ap newest (sym (append-nil fs))
pushed fs (g ∷ gs) short =
    pushed (newest (fs ++ g ∷ [])) gs (newest_few (fs ++ g ∷ [])) ∙ newest_keeps (fs ++ g ∷ []) gs ∙ ap newest (append_assoc fs (g ∷ []) gs)

-- ---- the tour

verdict_next : (sh : Shape) (spell : Parts → List ℕ) (w : Work) (a : ℕ) (v : Verdict)
    → to_check (memory_of sh spell (with_verdict w a v)) ≡ above a (entries (reference_in (blocks_of sh w)) (addresses sh.layout))
verdict_next sh spell w a Sound = refl
verdict_next sh spell w a (Failing class) = refl

verdict_checked : (w : Work) (a : ℕ) (v : Verdict) → (with_verdict w a v).tour.checked ≡ w.tour.checked + 1
verdict_checked w a Sound = refl
verdict_checked w a (Failing class) = refl

verdict_failing : (w : Work) (a : ℕ) (v : Verdict) (rest : List Finding)
    → (with_verdict w a v).tour.failing + length rest ≡ w.tour.failing + length (with_finding a v rest)
verdict_failing w a Sound rest = refl
verdict_failing w a (Failing class) rest = omega arith

verdict_ends : (w : Work) (a : ℕ) (v : Verdict) (rest : List Finding)
    → record (with_verdict w a v) { tour = first_tour; findings = push_all (with_verdict w a v).findings rest }
    ≡ record w { tour = first_tour; findings = push_all w.findings (with_finding a v rest) }
verdict_ends w a Sound rest = refl
verdict_ends w a (Failing class) rest = refl

module _ (sh : Shape) (codec : Codec) (shown : Shown) where
  -- a scrub over this list
  abbrev pub checked : Work → List (ℕ × ℕ) → Work × Scrubbed
  checked w xs = after_check w (first_check shown xs) xs

  tour_answers : (xs : List (ℕ × ℕ)) (w : Work) → to_check (memory_of sh codec.spell w) ≡ xs
      → result sh codec shown w (scrubs (suc (length xs)))
      ≡ checks shown xs ++ ToScrub (TourEnd (w.tour.checked + length xs) (w.tour.failing + length (failing shown xs))) ∷ []
  tour_answers [] w is = ap (λ (ys : List (ℕ × ℕ)). ToScrub (checked w ys).1 ∷ []) is
      ∙ ap (λ (n : ℕ). ToScrub (TourEnd n w.tour.failing) ∷ []) (let e : w.tour.checked ≡ w.tour.checked + 0 = omega arith in e)
      ∙ ap (λ (n : ℕ). ToScrub (TourEnd (w.tour.checked + 0) n) ∷ []) (let e : w.tour.failing ≡ w.tour.failing + 0 = omega arith in e)
  tour_answers (x ∷ xs) w is = let v = check_of shown x in let u = with_verdict w x.0 v in
      let rest : to_check (memory_of sh codec.spell u) ≡ xs = verdict_next sh codec.spell w x.0 v
      ∙ (is_next w.tour.last 1 (1 + sh.layout.blocks) (entries (reference_in (blocks_of sh w)) (addresses sh.layout))
      x xs (entries_rise (reference_in (blocks_of sh w)) 1 sh.layout.blocks (1 + sh.layout.blocks) (omega arith)) is).behind in
      ap (λ (ys : List (ℕ × ℕ)). ToScrub (checked w ys).1 ∷ result sh codec shown (checked w ys).0 (scrubs (suc (length xs)))) is
      ∙ ap (λ (l : List Answer). ToScrub (Checked x.0 v) ∷ l) (tour_answers xs u rest)
      ∙ ap (λ (n : ℕ). ToScrub (Checked x.0 v) ∷ (checks shown xs ++ ToScrub (TourEnd n (u.tour.failing + length (failing shown xs))) ∷ []))
      (let e : u.tour.checked + length xs ≡ w.tour.checked + length (x ∷ xs) = omega (arith, verdict_checked w x.0 v) in e)
      ∙ ap (λ (n : ℕ). ToScrub (Checked x.0 v)
      ∷ (checks shown xs ++ ToScrub (TourEnd (w.tour.checked + length (x ∷ xs)) n) ∷ [])) (verdict_failing w x.0 v (failing shown xs))

  tour_after : (xs : List (ℕ × ℕ)) (w : Work) → to_check (memory_of sh codec.spell w) ≡ xs
      → last_work sh codec shown w (scrubs (suc (length xs))) ≡ record w { tour = first_tour; findings = push_all w.findings (failing shown xs) }
  tour_after [] w is = ap (λ (ys : List (ℕ × ℕ)). (checked w ys).0) is
  tour_after (x ∷ xs) w is = let v = check_of shown x in let u = with_verdict w x.0 v in
      let rest : to_check (memory_of sh codec.spell u) ≡ xs = verdict_next sh codec.spell w x.0 v
      ∙ (is_next w.tour.last 1 (1 + sh.layout.blocks) (entries (reference_in (blocks_of sh w)) (addresses sh.layout))
      x xs (entries_rise (reference_in (blocks_of sh w)) 1 sh.layout.blocks (1 + sh.layout.blocks) (omega arith)) is).behind in
      ap (λ (ys : List (ℕ × ℕ)). last_work sh codec shown (checked w ys).0 (scrubs (suc (length xs)))) is
      ∙ tour_after xs u rest ∙ verdict_ends w x.0 v (failing shown xs)

pub tour_law : TourLaw
tour_law sh codec shown w start few = let xs = (referenced_of (memory_of sh codec.spell w)) in
    let all : to_check (memory_of sh codec.spell w) ≡ xs = ap (λ (t : Tour). above t.last xs) start ∙ all_above 0 1 (1 + sh.layout.blocks)
    xs (omega arith) (entries_rise (reference_in (blocks_of sh w)) 1 sh.layout.blocks (1 + sh.layout.blocks) (omega arith)) in record {
      answers = tour_answers sh codec shown xs w all
          ∙ ap (λ (t : Tour). checks shown xs ++ ToScrub (TourEnd (t.checked + length xs) (t.failing + length (failing shown xs))) ∷ []) start
          ∙ ap (λ (n : ℕ). checks shown xs
          ++ ToScrub (TourEnd n (0 + length (failing shown xs))) ∷ []) (let e : 0 + length xs ≡ length xs = omega arith in e)
          ∙ ap (λ (n : ℕ). checks shown xs
          ++ ToScrub (TourEnd (length xs) n) ∷ []) (let e : 0 + length (failing shown xs) ≡ length (failing shown xs) = omega arith in e);
      after = tour_after sh codec shown xs w all
          ∙ ap (λ (fs : List Finding). record w { tour = first_tour; findings = fs }) (pushed w.findings (failing shown xs) few);
    }

pub put_first : (a : ℕ) (v : Verdict) (rest : List Finding) → with_finding a v rest ≡ with_finding a v [] ++ rest
put_first a Sound rest = refl
put_first a (Failing class) rest = refl
