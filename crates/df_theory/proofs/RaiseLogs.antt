-- The log of an open that raises the boot, moment by moment.
use Rattle.std.proofs.{Common.{◌≡◌, ◌⊎◌, inl, inr, ℕ, ◌+◌, ◌<◌, ◌||◌, false, List, [], ◌∷◌, Option, Some, None, refl, sym, ◌∙◌, ap, subst, arith}, lemmas.Bool.{cases_eq}}
use Rattle.df_theory.{specs.{Units.{AnyUnit, BlockPlace, BlockUnit, Content, CopyPlace, CopyUnit, Header, HeaderPlace, HeaderUnit, Place, PreparePlace, PrepareUnit, ReplyPlace, ReplyUnit, Units, is_some, or_else, overlay}, UnitLog.{IsLeftBy, PutsOne, Synced, UnitEvent, UnitLog, add, loose, now, wrote}, Chance.{InPool, InPools, NoChance}, Rests.{IsDry}, Runs.{AtEach, Syncs, after_steps}, MakingLaws.{all_puts}, MendLaws.{AllPutCopy, AllPutTable, PutsTable, copy_steps, header_steps}, CopyPuts.{PutsCopies, update_steps}, Upgrades.{restarted_at}}, proofs.{Runs.{after_append, each_append}, Standing.{miss}, Mends.{no_copy}, CopyVotes.{IsStage}, Raised.{IsAfter, IsBody}, Keeps.{apart}}}

-- ---- a place that isn't loose

pub record IsFirm (log : UnitLog) (place : Place) (o : Option AnyUnit) : Type 0 where
  pub dry : loose log place ≡ false
  pub shows : now log place ≡ o

firm_wrote : (log : UnitLog) (put : Units) (place : Place) (o : Option AnyUnit)
    → put place ≡ None → IsFirm log place o → IsFirm (wrote put log) place o
firm_wrote log put place o none firm =
    record { dry = (λ i. is_some (none i) || firm.dry i); shows = ap (λ (u : Option AnyUnit). or_else u (now log place)) none ∙ firm.shows }

firm_synced : (log : UnitLog) (place : Place) (o : Option AnyUnit) → now log place ≡ o → IsFirm (add Synced log) place o
firm_synced log place o shown = record { dry = refl; shows = shown }

firm_left : (log : UnitLog) (place : Place) (o : Option AnyUnit) (j : Units) → IsFirm log place o → IsLeftBy log j → j place ≡ o
firm_left log place o j firm left = left place firm.dry ∙ firm.shows

-- ---- what may be shown

-- the unit of the start, a header of the table, or a copy of one of these contents
abbrev pub IsAllowed : Units → (ℕ → Header) → (ℕ → Content → Type 0) → Place → AnyUnit → Type 0
IsAllowed image table More (CopyPlace n) x = (image (CopyPlace n) ≡ Some x) ⊎ ((e : Content) × (x ≡ CopyUnit e) × More n e)
IsAllowed image table More (HeaderPlace s) x = (image (HeaderPlace s) ≡ Some x) ⊎ (x ≡ HeaderUnit (table s))
IsAllowed image table More (PreparePlace s) x = Unit {0}
IsAllowed image table More (ReplyPlace k) x = Unit {0}
IsAllowed image table More (BlockPlace a) x = Unit {0}

module _ (image : Units) (table : ℕ → Header) where
  -- prepares, replies and blocks are as they were, and nothing but these stands in the pools
  pub record IsMoment (More : ℕ → Content → Type 0) (log : UnitLog) : Type 0 where
    pub pooled : (place : Place) (x : AnyUnit) → InPool log place x → IsAllowed image table More place x
    pub shown : (place : Place) (x : AnyUnit) → now log place ≡ Some x → IsAllowed image table More place x
    pub body : (place : Place) → IsBody place → IsFirm log place (image place)

  module _ (More : ℕ → Content → Type 0) where
    allowed_old : (place : Place) (x : AnyUnit) → image place ≡ Some x → IsAllowed image table More place x
    allowed_old (CopyPlace n) x is = inl is
    allowed_old (HeaderPlace s) x is = inl is
    allowed_old (PreparePlace s) x is = tt
    allowed_old (ReplyPlace k) x is = tt
    allowed_old (BlockPlace a) x is = tt

    pub moment_begun : IsMoment More (restarted_at image)
    moment_begun = record { pooled = pooled; shown = allowed_old; body = λ place of. record { dry = refl; shows = refl } }
      where
        pooled : (place : Place) (x : AnyUnit) → InPool (restarted_at image) place x → IsAllowed image table More place x
        pooled place x (inl (inl is)) = allowed_old place x is
        pooled place x (inl (inr none)) = absurd none
        pooled place x (inr none) = absurd none

    pub moment_wrote : (put : Units) (log : UnitLog) → ((place : Place) (x : AnyUnit) → put place ≡ Some x → IsAllowed
        image table More place x) → ((place : Place) → IsBody place → put place ≡ None) → IsMoment More log → IsMoment More (wrote put log)
    moment_wrote put log allowed spares moment = record { pooled = pooled; shown = λ place x is. shown place x (put place) refl is; body = λ place of. firm_wrote log put place (image place) (spares place of) (moment.body place of) }
      where
        pooled : (place : Place) (x : AnyUnit) → InPool (wrote put log) place x → IsAllowed image table More place x
        pooled place x (inl old) = moment.pooled place x (inl old)
        pooled place x (inr (inl new)) = allowed place x new
        pooled place x (inr (inr old)) = moment.pooled place x (inr old)

        shown : (place : Place) (x : AnyUnit) (o : Option AnyUnit)
            → put place ≡ o → overlay put (now log) place ≡ Some x → IsAllowed image table More place x
        shown place x None none is = moment.shown place x (ap (λ (o : Option AnyUnit). or_else o (now log place)) (sym none) ∙ is)
        shown place x (Some y) some is = allowed place x (some ∙ ap (λ (o : Option AnyUnit). or_else o (now log place)) (sym some) ∙ is)

    pub moment_synced : (log : UnitLog) → IsMoment More log → IsMoment More (add Synced log)
    moment_synced log moment = record { pooled = pooled; shown = moment.shown; body = λ place of. firm_synced log place (image place) (moment.body place of).shows }
      where
        pooled : (place : Place) (x : AnyUnit) → InPool (add Synced log) place x → IsAllowed image table More place x
        pooled place x (inl (inl is)) = moment.shown place x is
        pooled place x (inl (inr old)) = moment.pooled place x (inl old)
        pooled place x (inr none) = absurd none

    pub moment_table : (put : Units) (log : UnitLog) → PutsTable table put → IsMoment More log → IsMoment More (wrote put log)
    moment_table put log puts moment = moment_wrote put log
        (λ place x is. let e = puts place x is in rw e.1 (inr e.2)) (λ place of. spares place of (put place) refl) moment
      where
        spares : (place : Place) → IsBody place → (o : Option AnyUnit) → put place ≡ o → put place ≡ None
        spares place of None none = none
        spares place of (Some y) some = absurd (subst IsBody (puts place y some).1 of)

    pub moment_copy : (put : Units) (log : UnitLog) (k : ℕ) (e : Content)
        → PutsOne put (CopyPlace k) (CopyUnit e) → More k e → IsMoment More log → IsMoment More (wrote put log)
    moment_copy put log k e one more moment = moment_wrote put log
        (λ place x is. let at = one.only place x is in rw at.0 (inr (e, at.1, more)))
        (λ place of. miss put (CopyPlace k) place (CopyUnit e) one (λ same. subst IsBody same of)) moment

    pub moment_left : (log : UnitLog) (j : Units) → IsMoment More log → IsLeftBy log j → NoChance log j → IsAfter image table j
    moment_left log j moment left chance = record { body = λ place of. firm_left log place (image place) j (moment.body place of) left; headers = λ s x is. moment.pooled (HeaderPlace s) x (chance.pooled (HeaderPlace s) x is) }

  pub moment_weaker : (More Most : ℕ → Content → Type 0)
      → ((n : ℕ) (e : Content) → More n e → Most n e) → (log : UnitLog) → IsMoment More log → IsMoment Most log
  moment_weaker More Most weaker log moment = record { pooled = λ place x at. weak place x (moment.pooled place x at); shown = λ place x is. weak place x (moment.shown place x is); body = moment.body }
    where
      weak : (place : Place) (x : AnyUnit) → IsAllowed image table More place x → IsAllowed image table Most place x
      weak (CopyPlace n) x (inl old) = inl old
      weak (CopyPlace n) x (inr (e, is, more)) = inr (e, is, weaker n e more)
      weak (HeaderPlace s) x a = a
      weak (PreparePlace s) x a = tt
      weak (ReplyPlace k) x a = tt
      weak (BlockPlace a) x b = tt

  -- ---- restoring

  module _ (c : Content) (m n : ℕ) where
    abbrev pub IsChoice : ℕ → Content → Type 0
    IsChoice k e = e ≡ c

    -- two copies of the choice stay
    pub record IsRestoring (log : UnitLog) : Type 0 where
      pub moment : IsMoment IsChoice log
      pub first : IsFirm log (CopyPlace m) (Some (CopyUnit c))
      pub second : IsFirm log (CopyPlace n) (Some (CopyUnit c))

    restoring_synced : (log : UnitLog) → IsRestoring log → IsRestoring (add Synced log)
    restoring_synced log is = record { moment = moment_synced IsChoice log is.moment; first = firm_synced log (CopyPlace m) (Some (CopyUnit c)) is.first.shows; second = firm_synced log (CopyPlace n) (Some (CopyUnit c)) is.second.shows }

    restoring_table : (put : Units) (log : UnitLog) → PutsTable table put → IsRestoring log → IsRestoring (wrote put log)
    restoring_table put log puts is = record {
      moment = moment_table IsChoice put log puts is.moment;
      first = firm_wrote log put (CopyPlace m) (Some (CopyUnit c)) (no_copy table put puts m) is.first;
      second = firm_wrote log put (CopyPlace n) (Some (CopyUnit c)) (no_copy table put puts n) is.second;
    }

    restoring_copy : (k : ℕ) (put : Units) (log : UnitLog)
        → PutsOne put (CopyPlace k) (CopyUnit c) → (m ≡ k → ⊥) → (n ≡ k → ⊥) → IsRestoring log → IsRestoring (wrote put log)
    restoring_copy k put log one no_m no_n is = record {
      moment = moment_copy IsChoice put log k c one refl is.moment;
      first = firm_wrote
          log put (CopyPlace m) (Some (CopyUnit c)) (miss put (CopyPlace k) (CopyPlace m) (CopyUnit c) one (apart m k no_m)) is.first;
      second = firm_wrote
          log put (CopyPlace n) (Some (CopyUnit c)) (miss put (CopyPlace k) (CopyPlace n) (CopyUnit c) one (apart n k no_n)) is.second;
    }

    restoring_puts : (puts : List Units) (log : UnitLog)
        → AllPutTable table puts → IsRestoring log → AtEach IsRestoring log (all_puts puts) × IsRestoring (after_steps (all_puts puts) log)
    restoring_puts [] log all is = (is, is)
    restoring_puts (put ∷ puts) log all is = let rest = restoring_puts puts (wrote put log) all.1 (restoring_table put log all.0 is) in
        ((is, rest.0), rest.1)

    pub restoring_headers : (puts : List Units) (log : UnitLog) → AllPutTable table puts
        → IsRestoring log → AtEach IsRestoring log (header_steps puts) × IsRestoring (after_steps (header_steps puts) log)
    restoring_headers [] log all is = (is, is)
    restoring_headers (put ∷ puts) log all is = let written = restoring_puts (put ∷ puts) log all is in
        let after : UnitLog = after_steps (all_puts (put ∷ puts)) log in
        let synced : IsRestoring (add Synced after) = restoring_synced after written.1 in (
          each_append IsRestoring (all_puts (put ∷ puts)) (Syncs ∷ []) log written.0 (written.1, synced),
          subst IsRestoring (sym (after_append (all_puts (put ∷ puts)) (Syncs ∷ []) log)) synced,
        )

    pub restoring_copies : (ks : List (ℕ × Units)) (log : UnitLog)
        → AllPutCopy c m n ks → IsRestoring log → AtEach IsRestoring log (copy_steps ks) × IsRestoring (after_steps (copy_steps ks) log)
    restoring_copies [] log all is = (is, is)
    restoring_copies (k ∷ ks) log all is = let one = restoring_copy k.0 k.1 log all.0 all.1 all.2 is in
        let rest = restoring_copies ks (add Synced (wrote k.1 log)) all.3 (restoring_synced (wrote k.1 log) one) in
        ((is, (one, rest.0)), rest.1)

  -- ---- updating

  module _ (c d : Content) where
    abbrev pub IsEither : ℕ → Content → Type 0
    IsEither k e = (e ≡ c) ⊎ ((k < 4) × (e ≡ d))

    -- copies below number k show the new content, those above it the old one
    pub record IsRaising (log : UnitLog) (k : ℕ) : Type 0 where
      pub moment : IsMoment IsEither log
      pub low : (n : ℕ) → n < k → IsFirm log (CopyPlace n) (Some (CopyUnit d))
      pub high : (n : ℕ) → k < n → n < 4 → IsFirm log (CopyPlace n) (Some (CopyUnit c))

    missed_copy : (put : Units) (k n : ℕ) → PutsOne put (CopyPlace k) (CopyUnit d) → (n ≡ k → ⊥) → put (CopyPlace n) ≡ None
    missed_copy put k n one differ =
        miss put (CopyPlace k) (CopyPlace n) (CopyUnit d) one (λ same. differ (let at : CopyPlace n ≡ CopyPlace k = same in cc))

    pub raising_wrote : (put : Units) (log : UnitLog) (k : ℕ)
        → k < 4 → PutsOne put (CopyPlace k) (CopyUnit d) → IsRaising log k → IsRaising (wrote put log) k
    raising_wrote put log k below one is = record {
      moment = moment_copy IsEither put log k d one (inr (below, refl)) is.moment;
      low = λ n less. firm_wrote log put (CopyPlace n) (Some (CopyUnit d)) (missed_copy put k n one (λ same. omega arith)) (is.low n less);
      high = λ n more inside.
          firm_wrote log put (CopyPlace n) (Some (CopyUnit c)) (missed_copy put k n one (λ same. omega arith)) (is.high n more inside);
    }

    pub raising_synced : (put : Units) (log : UnitLog) (k : ℕ)
        → k < 4 → PutsOne put (CopyPlace k) (CopyUnit d) → IsRaising log k → IsRaising (add Synced (wrote put log)) (k + 1)
    raising_synced put log k below one is = let w = raising_wrote put log k below one is in record {
      moment = moment_synced IsEither (wrote put log) w.moment;
      low = λ n less. firm_synced (wrote put log) (CopyPlace n) (Some (CopyUnit d)) (elim (cases_eq n k) [
        | inl here ↦
            ap (λ (i : ℕ). overlay put (now log) (CopyPlace i)) here ∙ ap (λ (o : Option AnyUnit). or_else o (now log (CopyPlace k))) one.at
        | inr away ↦ (w.low n (omega arith)).shows
      ]);
      high = λ n more inside. firm_synced (wrote put log) (CopyPlace n) (Some (CopyUnit c)) (w.high n (omega arith) inside).shows;
    }

    pub raising_stage : (log : UnitLog) (k : ℕ) (j : Units) → IsRaising log k → IsLeftBy log j → IsStage j c d k
    raising_stage log k j is left = record {
      low = λ n less. firm_left log (CopyPlace n) (Some (CopyUnit d)) j (is.low n less) left;
      high = λ n more inside. firm_left log (CopyPlace n) (Some (CopyUnit c)) j (is.high n more inside) left;
    }

    -- at each moment of the four copies
    pub each_raising : (Moment : UnitLog → Type 0) → ((log : UnitLog) (k : ℕ) → IsRaising log k → Moment log) → (puts : PutsCopies d)
        (log : UnitLog) → IsRaising log 0 → AtEach Moment log (update_steps puts) × IsRaising (after_steps (update_steps puts) log) 4
    each_raising Moment holds puts log is0 = let log1 : UnitLog = add Synced (wrote puts.put0 log) in
        let log2 : UnitLog = add Synced (wrote puts.put1 log1) in let log3 : UnitLog = add Synced (wrote puts.put2 log2) in
        let log4 : UnitLog = add Synced (wrote puts.put3 log3) in
        let is1 : IsRaising log1 1 = raising_synced puts.put0 log 0 (omega arith) puts.one0 is0 in
        let is2 : IsRaising log2 2 = raising_synced puts.put1 log1 1 (omega arith) puts.one1 is1 in
        let is3 : IsRaising log3 3 = raising_synced puts.put2 log2 2 (omega arith) puts.one2 is2 in
        let is4 : IsRaising log4 4 = raising_synced puts.put3 log3 3 (omega arith) puts.one3 is3 in (
          (
            holds log 0 is0,
            (
              holds (wrote puts.put0 log) 0 (raising_wrote puts.put0 log 0 (omega arith) puts.one0 is0),
              (
                holds log1 1 is1,
                (
                  holds (wrote puts.put1 log1) 1 (raising_wrote puts.put1 log1 1 (omega arith) puts.one1 is1),
                  (
                    holds log2 2 is2,
                    (
                      holds (wrote puts.put2 log2) 2 (raising_wrote puts.put2 log2 2 (omega arith) puts.one2 is2),
                      (holds log3 3 is3, (holds (wrote puts.put3 log3) 3 (raising_wrote puts.put3 log3 3 (omega arith) puts.one3 is3), holds log4 4 is4)),
                    ),
                  ),
                ),
              ),
            ),
          ),
          is4,
        )

-- ---- whether copy 1 shows the new content

pools_of : (start : Units) (events : List UnitEvent) (place : Place) (x : AnyUnit)
    → InPool (record { start = start; events = events }) place x → InPools start events place x
pools_of start [] place x at = at
pools_of start (e ∷ es) place x at = inl at

-- of two contents that an image shows, one checksum makes one content
pub shows_or_not : (log : UnitLog) (j : Units) (m n : ℕ) (d : Content) → NoChance log j
    → j (CopyPlace m) ≡ Some (CopyUnit d) → (j (CopyPlace n) ≡ Some (CopyUnit d)) ⊎ (j (CopyPlace n) ≡ Some (CopyUnit d) → ⊥)
shows_or_not log j m n d chance there = go (j (CopyPlace n)) refl
  where
    go : (o : Option AnyUnit) → j (CopyPlace n) ≡ o → (j (CopyPlace n) ≡ Some (CopyUnit d)) ⊎ (j (CopyPlace n) ≡ Some (CopyUnit d) → ⊥)
    go None is = inr (λ shown. let both : None ≡ Some (CopyUnit d) = sym is ∙ shown in cc)
    go (Some (HeaderUnit h)) is = inr (λ shown. let both : Some (HeaderUnit h) ≡ Some (CopyUnit d) = sym is ∙ shown in cc)
    go (Some (PrepareUnit p)) is = inr (λ shown. let both : Some (PrepareUnit p) ≡ Some (CopyUnit d) = sym is ∙ shown in cc)
    go (Some (ReplyUnit r)) is = inr (λ shown. let both : Some (ReplyUnit r) ≡ Some (CopyUnit d) = sym is ∙ shown in cc)
    go (Some (BlockUnit b)) is = inr (λ shown. let both : Some (BlockUnit b) ≡ Some (CopyUnit d) = sym is ∙ shown in cc)
    go (Some (CopyUnit e)) is = elim (cases_eq e.checksum d.checksum) [
      | inl one ↦ let same : e ≡ d = chance.distinct (CopyPlace n) (CopyPlace m) (CopyUnit e) (CopyUnit d)
          (pools_of log.start log.events (CopyPlace n) (CopyUnit e) (chance.pooled (CopyPlace n) (CopyUnit e) is))
          (pools_of log.start log.events (CopyPlace m) (CopyUnit d) (chance.pooled (CopyPlace m) (CopyUnit d) there)) one in
          inl (is ∙ ap (λ (x : Content). Some (CopyUnit x)) same)
      | inr differ ↦ inr (λ shown. let both : Some (CopyUnit
          e) ≡ Some (CopyUnit d) = sym is ∙ shown in let same : e ≡ d = cc in differ (ap (λ (x : Content). x.checksum) same))
    ]

-- ---- nothing is loose between the steps

pub dry_copies : (ks : List (ℕ × Units)) (log : UnitLog) → IsDry log → IsDry (after_steps (copy_steps ks) log)
dry_copies [] log dry = dry
dry_copies (k ∷ ks) log dry = dry_copies ks (add Synced (wrote k.1 log)) (λ place. refl)

pub dry_headers : (puts : List Units) (log : UnitLog) → IsDry log → IsDry (after_steps (header_steps puts) log)
dry_headers [] log dry = dry
dry_headers (put ∷ puts) log dry = subst IsDry (sym (after_append (all_puts (put ∷ puts)) (Syncs ∷ []) log)) (λ place. refl)
