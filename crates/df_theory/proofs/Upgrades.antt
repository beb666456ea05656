-- From the barrier of an open to the end of its boot update.
use Rattle.std.proofs.{Common.{◌≡◌, ◌⊎◌, inl, inr, ℕ, ◌<◌, List, Some, refl, sym, ◌∙◌, ap, subst, arith}, lemmas.Bool.{cases_eq, cases_lt}}
use Rattle.df_theory.{specs.{Units.{AnyUnit, Content, CopyPlace, CopyUnit, Header, HeaderPlace, HeaderUnit, Units}, Shape.{Shape}, Copies.{IsChosen, rank_of}, View.{View}, Shows.{Agrees}, Holds.{Holds, IsWhole}, Next.{booted}, UnitLog.{IsLeftBy, UnitLog, now}, Chance.{EachLeft, NoChance}, Rests.{IsDry}, Runs.{AtEach, after_steps}, CopyPuts.{PutsCopies, update_steps}, MendLaws.{copy_steps, header_steps, mend_steps}, Found.{IsClean, IsFound}, Upgrades.{BeginsRaised, EndsRaised, HasBare, IsCleanBeyond, IsRaised, MayRaise, OpenLaw, RaiseAnewLaw, RaiseEndsLaw, RaiseLaw, UpgradeLaw, of_version, raise_steps, restarted_at}}, proofs.{Choices.{same_copy}, CopyVotes.{IsStage, chosen_first, chosen_last, chosen_not_yet, chosen_second}, Runs.{after_append, each_append, each_weaker}, Mends.{copies_miss, copies_shown, header_steps_miss, missed, steps_shown, AllMiss}, Standing.{miss}, Writes.{anew_law}, Masked.{unmasked_holds}, Raised.{IsAfter, chosen_restored, found_new, found_old, held, higher, later_agrees, raised_new}, RaiseLogs.{IsChoice, IsEither, IsRaising, IsRestoring, dry_copies, dry_headers, each_raising, moment_begun, moment_left, moment_weaker, raising_stage, restoring_copies, restoring_headers, shows_or_not}}}

module _ (sh : Shape) (ver : ℕ) (image : Units) (v : View) (table : ℕ → Header)
    (headers : List Units) (copies : List (ℕ × Units)) (d : Content) (may : MayRaise sh ver image v table headers copies d) where
  abbrev c : Content
  c = v.checkpoint.content

  abbrev Restoring : UnitLog → Type 0
  Restoring log = IsRestoring image table c may.agreed.first may.agreed.second log

  abbrev Raising : UnitLog → ℕ → Type 0
  Raising log k = IsRaising image table c d log k

  -- ---- the two phases

  begun_restoring : Restoring (restarted_at image)
  begun_restoring = record { moment = moment_begun image table (IsChoice image table c may.agreed.first may.agreed.second); first = record { dry = refl; shows = may.agreed.at_first }; second = record { dry = refl; shows = may.agreed.at_second } }

  abbrev mid : UnitLog
  mid = after_steps (header_steps headers) (restarted_at image)

  abbrev restored : UnitLog
  restored = after_steps (copy_steps copies) mid

  restoring_first : AtEach Restoring (restarted_at image) (header_steps headers) × Restoring mid
  restoring_first =
      restoring_headers image table c may.agreed.first may.agreed.second headers (restarted_at image) may.puts_headers begun_restoring

  restoring_second : AtEach Restoring mid (copy_steps copies) × Restoring restored
  restoring_second = restoring_copies image table c may.agreed.first may.agreed.second copies mid may.puts_copies restoring_first.1

  restored_dry : IsDry restored
  restored_dry = dry_copies copies mid (dry_headers headers (restarted_at image) (λ place. refl))

  restored_copy : (k : ℕ) → k < 4 → now restored (CopyPlace k) ≡ Some (CopyUnit c)
  restored_copy k below = copies_shown c may.agreed.first may.agreed.second copies mid may.puts_copies k (elim (may.each_copy k below) [
    | inl shown ↦
        inl (missed (CopyPlace k) (header_steps headers) (restarted_at image) (header_steps_miss table headers may.puts_headers k) ∙ shown)
    | inr number ↦ inr number
  ])

  restored_header : (s : ℕ) → s < sh.layout.slots → now restored (HeaderPlace s) ≡ Some (HeaderUnit (table s))
  restored_header s below = missed (HeaderPlace s) (copy_steps copies) mid (copies_miss c may.agreed.first may.agreed.second
      copies may.puts_copies s) ∙ steps_shown table headers (restarted_at image) may.puts_headers s (may.each_slot s below)

  raising_begins : Raising restored 0
  raising_begins = record {
    moment = moment_weaker image table (IsChoice image table c may.agreed.first may.agreed.second) (IsEither image table c d) (λ n e is.
        inl is) restored restoring_second.1.moment;
    low = λ n less. absurd (omega arith);
    high = λ n more below. record { dry = restored_dry (CopyPlace n); shows = restored_copy n below };
  }

  -- ---- what is left in each of them

  restoring_after : (log : UnitLog) → Restoring log → (j : Units) → IsLeftBy log j → NoChance log j → IsAfter image table j
  restoring_after log is j left chance =
      moment_left image table (IsChoice image table c may.agreed.first may.agreed.second) log j is.moment left chance

  restoring_chosen : (log : UnitLog) → Restoring log → (j : Units) → IsLeftBy log j → NoChance log j → IsChosen j c
  restoring_chosen log is j left chance = chosen_restored image
      j c may.found.chosen may.agreed.first may.agreed.second may.agreed.apart may.agreed.inside may.agreed.at_first may.agreed.at_second
      (left (CopyPlace may.agreed.first) is.first.dry ∙ is.first.shows) (left (CopyPlace may.agreed.second) is.second.dry ∙ is.second.shows) from
    where
      from : (k : ℕ) (e : Content) → j (CopyPlace k) ≡ Some (CopyUnit e) → (image (CopyPlace k) ≡ Some (CopyUnit e)) ⊎ (e ≡ c)
      from k e shown = elim (is.moment.pooled (CopyPlace k) (CopyUnit e) (chance.pooled (CopyPlace k) (CopyUnit e) shown)) [
        | inl old ↦ inl old
        | inr (f, one, choice) ↦ inr ((let same : e ≡ f = cc (one) in same) ∙ choice)
      ]

  raising_after : (log : UnitLog) (k : ℕ) → Raising log k → (j : Units) → IsLeftBy log j → NoChance log j → IsAfter image table j
  raising_after log k is j left chance = moment_left image table (IsEither image table c d) log j is.moment left chance

  higher_is : rank_of c < rank_of d
  higher_is = higher sh ver image v table headers copies d may

  -- the old choice while the new content has at most one vote, and else the new one
  pub record IsBefore (j : Units) : Type 0 where
    pub chosen : IsChosen j c
    pub no_new : (n : ℕ) → 0 < n → n < 4 → j (CopyPlace n) ≡ Some (CopyUnit d) → ⊥

  abbrev pub IsVoted : Units → Type 0
  IsVoted j = IsBefore j ⊎ IsChosen j d

  raising_voted : (log : UnitLog) (k : ℕ) → Raising log k → (j : Units) → IsLeftBy log j → NoChance log j → IsVoted j
  raising_voted log k is j left chance = elim (cases_eq k 0) [
    | inl none ↦ let stage = at 0 none in
        inl (record { chosen = chosen_first j c d higher_is stage; no_new = λ n above below shown. differ j n (stage.high n (omega arith) below) shown })
    | inr some ↦ elim (cases_eq k 1) [
      | inl one ↦ let stage = at 1 one in elim (shows_or_not log j 0 1 d chance (stage.low 0 (omega arith))) [
        | inl shown ↦ inr (chosen_second j c d higher_is stage shown)
        | inr not ↦ inl (record {
          chosen = chosen_not_yet j c d higher_is stage not;
          no_new = λ n above below shown. elim (cases_eq n 1) [
            | inl here ↦ not (ap (λ (i : ℕ). j (CopyPlace i)) (sym here) ∙ shown)
            | inr away ↦ differ j n (stage.high n (omega arith) below) shown
          ];
        })
      ]
      | inr more ↦ inr (chosen_last j c d higher_is k (omega arith) (at k refl))
    ]
  ]
    where
      at : (i : ℕ) → k ≡ i → IsStage j c d i
      at i same = subst (λ (m : ℕ). IsStage j c d m) same (raising_stage image table c d log k j is left)

      differ : (i : Units) (n : ℕ) → i (CopyPlace n) ≡ Some (CopyUnit c) → i (CopyPlace n) ≡ Some (CopyUnit d) → ⊥
      differ i n old new = omega (arith, ap rank_of (same_copy i n c d old new), higher_is)

  -- ---- the bare view

  restoring_left : (log : UnitLog) → Restoring log → EachLeft log (λ j. HasBare sh ver j v d)
  restoring_left log is j left chance = inl
      (found_old sh ver image v table headers copies d may j (restoring_after log is j left chance) (restoring_chosen log is j left chance))

  raising_left : (log : UnitLog) (k : ℕ) → Raising log k → EachLeft log (λ j. HasBare sh ver j v d)
  raising_left log k is j left chance = elim (raising_voted log k is j left chance) [
    | inl before ↦ inl (found_old sh ver image v table headers copies d may j (raising_after log k is j left chance) before.chosen)
    | inr new ↦ inr (found_new sh ver image v table headers copies d may j (raising_after log k is j left chance) new)
  ]

  -- a fact of each moment
  each_moment : (Moment : UnitLog → Type 0)
      → ((log : UnitLog) → Restoring log → Moment log) → ((log : UnitLog) (k : ℕ) → Raising log k → Moment log) → (puts : PutsCopies d)
      → AtEach Moment (restarted_at image) (raise_steps headers copies puts)
  each_moment Moment one two puts = each_append Moment (mend_steps headers copies) (update_steps puts) (restarted_at image)
      (each_append Moment (header_steps headers) (copy_steps copies) (restarted_at image) (each_weaker Restoring Moment one (header_steps
      headers) (restarted_at image) restoring_first.0) (each_weaker Restoring Moment one (copy_steps copies) mid restoring_second.0))
      (rw (sym (after_append (header_steps headers) (copy_steps copies) (restarted_at image))) at
      (each_raising image table c d Moment two puts restored raising_begins).0)

  pub raise_left : (puts : PutsCopies d)
      → AtEach (λ log. EachLeft log (λ j. HasBare sh ver j v d)) (restarted_at image) (raise_steps headers copies puts)
  raise_left puts = each_moment (λ log. EachLeft log (λ j. HasBare sh ver j v d)) restoring_left raising_left puts

  -- ---- clean starts

  module _ (clean : IsClean image v) where
    old_agrees : (n : ℕ) (x : AnyUnit) → image (CopyPlace n) ≡ Some x → Agrees sh v (CopyPlace n) x
    old_agrees n x is = let of = may.places (CopyPlace n) x is in (of.0, of.1, clean n of.0 (is ∙ ap Some of.1))

    restoring_clean : (log : UnitLog) → Restoring log → EachLeft log (λ j. Holds sh j v ⊎ IsRaised (of_version ver sh) j (booted v d))
    restoring_clean log is j left chance = inl (unmasked_holds sh j v (held
        sh ver image v table headers copies d may j (restoring_after log is j left chance)) (restoring_chosen log is j left chance) agrees)
      where
        agrees : (n : ℕ) (x : AnyUnit) → j (CopyPlace n) ≡ Some x → Agrees sh v (CopyPlace n) x
        agrees n x shown = elim (is.moment.pooled (CopyPlace n) x (chance.pooled (CopyPlace n) x shown)) [
          | inl old ↦ old_agrees n x old
          | inr (e, one, choice) ↦ (e, one, λ differs. inl choice)
        ]

    raising_clean : (log : UnitLog) (k : ℕ) → Raising log k → EachLeft log (λ j. Holds sh j v ⊎ IsRaised (of_version ver sh) j (booted v d))
    raising_clean log k is j left chance = elim (raising_voted log k is j left chance) [
      | inl before ↦ inl (unmasked_holds sh
          j v (held sh ver image v table headers copies d may j (raising_after log k is j left chance)) before.chosen (agrees_old before))
      | inr new ↦ inr (raised_new sh ver image v table headers copies d may j (raising_after log k is j left chance) new agrees_new)
    ]
      where
        agrees_old : IsBefore j → (n : ℕ) (x : AnyUnit) → j (CopyPlace n) ≡ Some x → Agrees sh v (CopyPlace n) x
        agrees_old before n x shown = elim (is.moment.pooled (CopyPlace n) x (chance.pooled (CopyPlace n) x shown)) [
          | inl old ↦ old_agrees n x old
          | inr (e, one, inl choice) ↦ (e, one, λ differs. inl choice)
          | inr (e, one, inr (below, new)) ↦ (e, one, λ differs. absurd (before.no_new n (omega arith) below (shown ∙ ap Some one ∙ ap (λ (f : Content). Some (CopyUnit f)) new)))
        ]

        agrees_new : (n : ℕ) (x : AnyUnit) → j (CopyPlace n) ≡ Some x → Agrees (of_version ver sh) (booted v d) (CopyPlace n) x
        agrees_new n x shown = elim (is.moment.pooled (CopyPlace n) x (chance.pooled (CopyPlace n) x shown)) [
          | inl old ↦ later_agrees sh ver image v table headers copies d may (CopyPlace n) x (old_agrees n x old)
          | inr (e, one, inl choice) ↦ (e, one, λ differs. inr (omega (arith, ap rank_of choice, higher_is)))
          | inr (e, one, inr (below, new)) ↦ (e, one, λ differs. inl new)
        ]

    pub raise_clean : (puts : PutsCopies d) → AtEach (λ log. EachLeft log (λ j. Holds sh j v ⊎ IsRaised (of_version ver sh) j (booted v d)))
        (restarted_at image) (raise_steps headers copies puts)
    raise_clean puts = each_moment (λ log.
        EachLeft log (λ j. Holds sh j v ⊎ IsRaised (of_version ver sh) j (booted v d))) restoring_clean raising_clean puts

  -- ---- the end

  module _ (puts : PutsCopies d) where
    abbrev last : UnitLog
    last = after_steps (update_steps puts) restored

    abbrev done : UnitLog
    done = after_steps (raise_steps headers copies puts) (restarted_at image)

    same : done ≡ last
    same = after_append (mend_steps headers copies) (update_steps puts) (restarted_at image) ∙ ap (λ (l : UnitLog).
        after_steps (update_steps puts) l) (after_append (header_steps headers) (copy_steps copies) (restarted_at image))

    ended : Raising last 4
    ended = (each_raising image table c d (λ log. Unit {0}) (λ log k is. tt) puts restored raising_begins).1

    headers_missed : (s : ℕ) → AllMiss (HeaderPlace s) (update_steps puts)
    headers_missed s = (
      miss puts.put0 (CopyPlace 0) (HeaderPlace s) (CopyUnit d) puts.one0 (λ e. cc (e)),
      (
        miss puts.put1 (CopyPlace 1) (HeaderPlace s) (CopyUnit d) puts.one1 (λ e. cc (e)),
        (miss puts.put2 (CopyPlace 2) (HeaderPlace s) (CopyUnit d) puts.one2 (λ e. cc (e)), (miss puts.put3 (CopyPlace 3) (HeaderPlace s) (CopyUnit d) puts.one3 (λ e. cc (e)), tt)),
      ),
    )

    whole : IsWhole (of_version ver sh) (now last) (booted v d)
    whole = record {
      copies = λ n below. (ended.low n below).shows;
      headers = λ s below.
          (table s, missed (HeaderPlace s) (update_steps puts) restored (headers_missed s) ∙ restored_header s below, (may.tells s).tail);
    }

    after : IsAfter image table (now last)
    after = record { body = λ place of. (ended.moment.body place of).shows; headers = λ s x is. ended.moment.shown (HeaderPlace s) x is }

    chosen : IsChosen (now last) d
    chosen = chosen_last (now last) c d higher_is
        4 (omega arith) (record { low = λ n less. (ended.low n less).shows; high = λ n more below. (ended.high n more below).shows })

    clean_end : IsCleanBeyond image v
        → (n : ℕ) (x : AnyUnit) → now last (CopyPlace n) ≡ Some x → Agrees (of_version ver sh) (booted v d) (CopyPlace n) x
    clean_end beyond n x shown = elim (cases_lt n 4) [
      | inl below ↦ (d, (let both : Some x ≡ Some (CopyUnit d) = sym shown ∙ (ended.low n below).shows in let one : x ≡ CopyUnit d = cc in one), λ differs. inl refl)
      | inr above ↦ elim (ended.moment.shown (CopyPlace n) x shown) [
        | inl old ↦ let of = may.places (CopyPlace n) x old in
            later_agrees sh ver image v table headers copies d may (CopyPlace n) x (of.0, of.1, beyond n of.0 above (old ∙ ap Some of.1))
        | inr (e, one, inl choice) ↦ (e, one, λ differs. inr (omega (arith, ap rank_of choice, higher_is)))
        | inr (e, one, inr (below, new)) ↦ (e, one, λ differs. inl new)
      ]
    ]

    pub raise_end : EndsRaised (of_version ver sh) done (booted v d)
        × (IsCleanBeyond image v → BeginsRaised (of_version ver sh) (now done) (booted v d))
    raise_end = subst (λ (l : UnitLog). EndsRaised (of_version ver sh) l (booted v d)
        × (IsCleanBeyond image v → BeginsRaised (of_version ver sh) (now l) (booted v d))) (sym same) (
          record { dry = λ place. refl; whole = whole; found = found_new sh ver image v table headers copies d may (now last) after chosen },
          λ beyond. let raised : IsRaised (of_version ver sh) (now last) (booted v d) =
              raised_new sh ver image v table headers copies d may (now last) after chosen (clean_end beyond) in
              record { raised = raised; rests = anew_law (of_version ver sh) (now last) (booted v d) raised.holds },
        )

pub raise_law : RaiseLaw
raise_law sh n image v table headers copies d puts may = (raise_left sh n image v table headers copies d may puts, record { content = may.boot.is.same; chain = refl; parts = refl; tail = refl; replies = refl; stored = λ k. refl })

pub raise_ends_law : RaiseEndsLaw
raise_ends_law sh n image v table headers copies d puts may = raise_end sh n image v table headers copies d may puts

pub raise_anew_law : RaiseAnewLaw
raise_anew_law sh n image v table headers copies d puts may clean = raise_clean sh n image v table headers copies d may clean puts

pub open_law : OpenLaw
open_law sh image v table headers copies d puts may =
    let kept = raise_law sh v.checkpoint.content.version image v table headers copies d puts may in
    let same : v.checkpoint.content.version ≡ sh.version = may.found.checkpoint.tests.version in (
      subst (λ (n : ℕ). AtEach (λ log. EachLeft log (λ left. IsFound sh left v ⊎ IsFound (of_version n sh) left (booted v d)))
          (restarted_at image) (raise_steps headers copies puts)) same kept.0,
      kept.1,
      rw same at (raise_ends_law sh v.checkpoint.content.version image v table headers copies d puts may).0,
    )

pub upgrade_law : UpgradeLaw
upgrade_law sh image v table headers copies d puts first may = let kept = raise_law sh 2 image v table headers copies d puts may in
    let tests = may.found.checkpoint.tests in let old : v.checkpoint.content.version ≡ 1 = tests.version ∙ first in
    (kept.0, kept.1, (raise_ends_law sh 2 image v table headers copies d puts may).0, old, may.boot.is.same.file.0, omega (arith, may.boot.is.boot, (tests.of.one old).0))
