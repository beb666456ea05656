-- A sample: a file is damaged and opened three times. The second damage and the third hit the same places: two copies of the superblock,
-- and the header of the only prepare.
use Rattle.std.{proofs.Common.{◌≡◌, ◌⊎◌, inl, inr, ℕ, ◌+◌, ◌<◌, ◌≤◌, ◌==◌, ◌%◌, Bool, true, false, if◌then◌else◌, List, [], ◌∷◌, Option, Some, None, refl, sym, ◌∙◌, ap, subst, arith, eqb-true}, specs.List.{slice_get}}
use Rattle.df_theory.{specs.{CopyPuts.{PutsCopies}, Units.{AnyUnit, BlockPlace, Content, CopyPlace, CopyUnit, Header, HeaderPlace, HeaderUnit, Message, Place, PreparePlace, PrepareUnit, ReplyPlace, Units, or_else}, View.{View, sessions}, Shows.{AgreesHeader, Needs}, Holds.{Holds}, Next.{MayBoot, appended, booted}, UnitLog.{Synced, UnitLog, add, now, put_one, wrote}, Chance.{InPool}, Grown.{IsSafe}, Rests.{IsGoodLog, RestsOn}, Runs.{AtEach, Puts, Step, Syncs, after_steps}, MendLaws.{IsSlotHeader, Reaches, mend_steps}, WriterLaws.{AppendsPrepare}, Found.{AreOfPlaces, IsFound, IsInRange, IsOfPlace}}, proofs.Laws.{anew_law, each_weaker, four, hurt_law, put_one_law, rests_law, short_same, holds_found, bears_open, chosen_same, pool_pools, All, IsOpen, now_all, pools_all, copies_of, reserved, copies_are, header_put, may_append, may_raise, prepare_put, quiet_updated, copies_all, put_all, never_kept}}
use Rattle.df_history.{specs.{Histories.{InHistoryPool, InHistoryPools, IsLived, IsLivedMoment, IsSettled, MayStart}, OpenLaws.{IsOpening}, Sample.{IsReopened, ThriceSampleLaw, opened}}, proofs.{Awakened.{open_lived_law}, Mendings.{each_last}, Since.{found_since_law, synced_settled}, Samples.{AreOurs, IsOurs, append_ours, append_steps, appends, appends_to, booted1, booted1_ours, clear_of, content, distinct, first, found2, in_range, lived2, made, made_ours, of_copy, opened2, opening2, pinned, places2, pools_ours, prepare, renewed, second, second_ours, shape, shown, start2, third}}}

-- ---- an open, and what follows it

reopened :
    (logs : List UnitLog) (log : UnitLog) (image : Units) (w : View) (table : ℕ → Header)
    (headers : List Units) (copies : List (ℕ × Units)) (d : Content) (puts : PutsCopies d) (ss : List Step) (u : View)
    → IsLived shape (log ∷ logs)
    → MayStart log logs image → AreOfPlaces shape image → IsFound shape image w → IsOpening shape image w table headers copies d
    → (RestsOn shape (opened d image headers copies puts) (booted w d)
    → AtEach (IsSafe shape) (opened d image headers copies puts) ss × RestsOn shape (after_steps ss (opened d image headers copies puts)) u)
    → IsReopened shape logs log image w (after_steps ss (opened d image headers copies puts)) u
reopened logs log image w table headers copies d puts ss u lived may places finds opening goes =
    let law = open_lived_law shape log logs image w lived may places finds table headers copies d puts opening in
    let goes_on = goes law.1 in record {
      start = may;
      places = places;
      finds = finds;
      had = found_since_law shape log logs image w lived may finds;
      table = table;
      headers = headers;
      copies = copies;
      content = d;
      puts = puts;
      opening = opening;
      steps = ss;
      safe = goes_on.0;
      next_is = refl;
      lived = (each_last (IsLivedMoment shape (log ∷ logs)) ss (opened d image headers copies puts) (law.3 ss goes_on.0)).lived;
      rests = goes_on.1;
    }

pub history_pools : (logs : List UnitLog) (place : Place) (x : AnyUnit) → InHistoryPool logs place x → InHistoryPools logs place x
history_pools [] place x at = at
history_pools (log ∷ logs) place x (inl here) = inl (pool_pools log.start log.events place x here)
history_pools (log ∷ logs) place x (inr older) = inr (history_pools logs place x older)

-- ---- the op is appended anew after the first damage

abbrev renewing : UnitLog
renewing = after_steps (append_steps renewed) third

-- the view with that prepare, and this superblock
abbrev view : Content → View
view c = booted (appended (first 2) (renewed ∷ [])) c

renews : AppendsPrepare shape third (first 2) (view (content 2)) (prepare_put renewed) (header_put renewed)
renews = appends_to 2 third renewed opened2.0 (quiet_updated (content 2) (record { start = shown; events = [] }))
    (clear_of 2 shown (λ s p is own. absurd (let both : None ≡ Some (PrepareUnit p) = is in cc)))
    (may_append shape (first 2) (renewed ∷ []) (omega arith) (refl, refl, tt) (record { mark = refl; checkpoint = refl; boot = refl; group = refl; group_last = refl }, tt) (omega arith, omega arith, omega arith) ((refl, omega arith), tt))

once : IsReopened shape (made ∷ []) second shown (first 1) renewing (view (content 2))
once = reopened (made ∷ []) second shown (first 1) (λ s.
    reserved) [] [] (content 2) (copies_of (content 2)) (append_steps renewed) (view (content 2)) lived2 start2 places2 found2 opening2
    (λ rests. (each_weaker (IsGoodLog shape (first 2) (view (content 2))) (IsSafe shape) (λ l good. good.safe) (append_steps renewed) third renews.leads.moments, renews.leads.rests))

renewing_ours : All IsOurs renewing.start renewing.events
renewing_ours = append_ours renewed third (refl, refl) (copies_all IsOurs
    (content 2) (refl, omega arith) (record { start = shown; events = [] }) (now_all IsOurs booted1.start booted1.events booted1_ours))

-- ---- the places that are hurt: copies 2 and 3, and the header of the prepare

abbrev hurt : Option AnyUnit → Option AnyUnit → Units → Units
hurt copy header image (CopyPlace n) = if 2 == n then copy else (if 3 == n then copy else image (CopyPlace n))
hurt copy header image (HeaderPlace s) = if 1 == s then header else image (HeaderPlace s)
hurt copy header image (PreparePlace s) = image (PreparePlace s)
hurt copy header image (ReplyPlace k) = image (ReplyPlace k)
hurt copy header image (BlockPlace a) = image (BlockPlace a)

abbrev table : ℕ → Header
table s = if 1 == s then renewed.header else reserved

abbrev copy_puts : Content → List (ℕ × Units)
copy_puts c = (2, put_one (CopyPlace 2) (CopyUnit c)) ∷ (3, put_one (CopyPlace 3) (CopyUnit c)) ∷ []

-- a log at whose end the file is whole, and what damage leaves of it
record IsStruck (log : UnitLog) (c d : Content) (copy : Option AnyUnit) (g : Header) : Type 0 where
  rests : RestsOn shape log (view c)
  ours : All IsOurs log.start log.events
  settled_is : IsSettled log
  copies : (n : ℕ) → n < 4 → now log (CopyPlace n) ≡ Some (CopyUnit c)
  headers : (s : ℕ) → (1 == s) ≡ false → now log (HeaderPlace s) ≡ Some (HeaderUnit reserved)
  no_block : (a : ℕ) → now log (BlockPlace a) ≡ None
  old : (x : AnyUnit) → copy ≡ Some x → InPool log (CopyPlace 2) x × InPool log (CopyPlace 3) x
  older : IsOfPlace shape (HeaderPlace 1) (HeaderUnit g) × AgreesHeader shape (view c) 1 g
  boot : MayBoot (view c) d

abbrev struck : UnitLog → Option AnyUnit → Header → Units
struck log copy g = hurt copy (Some (HeaderUnit g)) (now log)

-- the log of the open that comes then
abbrev next : UnitLog → Content → Content → Option AnyUnit → Header → UnitLog
next log c d copy g = opened d (struck log copy g) (header_put renewed ∷ []) (copy_puts c) (copies_of d)

module _ (logs : List UnitLog)
    (log : UnitLog) (c d : Content) (copy : Option AnyUnit) (g : Header) (is : IsStruck log c d copy g) (lived : IsLived shape (log ∷ logs))
    (ours : (place : Place) (x : AnyUnit) → InHistoryPools (log ∷ logs) place x → IsOurs x)
    (was : InHistoryPool (log ∷ logs) (HeaderPlace 1) (HeaderUnit g)) where
  copy_pool : (n : ℕ) (x : AnyUnit) (a b : Bool) → (2 == n) ≡ a
      → (3 == n) ≡ b → (if a then copy else (if b then copy else now log (CopyPlace n))) ≡ Some x → InPool log (CopyPlace n) x
  copy_pool n x true b at other shows = subst (λ (k : ℕ). InPool log (CopyPlace k) x) (eqb-true 2 n at) (is.old x shows).0
  copy_pool n x false true at other shows = subst (λ (k : ℕ). InPool log (CopyPlace k) x) (eqb-true 3 n other) (is.old x shows).1
  copy_pool n x false false at other shows = is.rests.pooled (CopyPlace n) x shows

  torn_pool : (place : Place) (x : AnyUnit) → hurt copy None (now log) place ≡ Some x → InPool log place x
  torn_pool (CopyPlace n) x shows = copy_pool n x (2 == n) (3 == n) refl refl shows
  torn_pool (HeaderPlace s) x shows = go (1 == s) shows
    where
      go : (b : Bool) → (if b then None else now log (HeaderPlace s)) ≡ Some x → InPool log (HeaderPlace s) x
      go true none = absurd (let both : None ≡ Some x = none in cc)
      go false old = is.rests.pooled (HeaderPlace s) x old
  torn_pool (PreparePlace s) x shows = is.rests.pooled (PreparePlace s) x shows
  torn_pool (ReplyPlace k) x shows = is.rests.pooled (ReplyPlace k) x shows
  torn_pool (BlockPlace a) x shows = is.rests.pooled (BlockPlace a) x shows

  torn_needs : (place : Place) (x : AnyUnit) → Needs shape (view c) place x → hurt copy None (now log) place ≡ Some x
  torn_needs (CopyPlace n) x need = absurd need
  torn_needs (HeaderPlace s) x need = absurd need
  torn_needs (PreparePlace s) x need = is.rests.holds.bears.needs (PreparePlace s) x need
  torn_needs (ReplyPlace k) x need = is.rests.holds.bears.needs (ReplyPlace k) x need
  torn_needs (BlockPlace a) x need = is.rests.holds.bears.needs (BlockPlace a) x need

  torn : Holds shape (hurt copy None (now log)) (view c)
  torn = hurt_law shape log (view c) (hurt copy None (now log)) is.rests torn_pool (record { first = 0; second = 1; apart = omega arith; inside = omega arith; at_first = is.copies 0 (omega arith); at_second = is.copies 1 (omega arith) }) torn_needs

  header_open : (s : ℕ) (b : Bool) → (1 == s) ≡ b → (struck log copy g (HeaderPlace s) ≡ hurt copy None (now log) (HeaderPlace s))
      ⊎ IsOpen shape (view c) (struck log copy g) (HeaderPlace s)
  header_open s true at = inr (rw (← (eqb-true 1 s at)) (record {
    needless = λ x none. none;
    agrees = λ x shows. (g, (let both : Some (HeaderUnit g) ≡ Some x = shows in let one : x ≡ HeaderUnit g = cc in one), is.older.1);
  }))
  header_open s false at = inl (ap (λ (b : Bool). if b then Some (HeaderUnit g) else now log (HeaderPlace s)) at
      ∙ sym (ap (λ (b : Bool). if b then None else now log (HeaderPlace s)) at))

  each_open : (place : Place) → (struck log copy g place ≡ hurt copy None (now log) place) ⊎ IsOpen shape (view c) (struck log copy g) place
  each_open (CopyPlace n) = inl refl
  each_open (HeaderPlace s) = header_open s (1 == s) refl
  each_open (PreparePlace s) = inl refl
  each_open (ReplyPlace k) = inl refl
  each_open (BlockPlace a) = inl refl

  struck_holds : Holds shape (struck log copy g) (view c)
  struck_holds = record {
    bears = bears_open shape (view c) (hurt copy None (now log)) (struck log copy g) torn.bears each_open;
    chosen = chosen_same (hurt copy None (now log)) (struck log copy g) c (λ k. refl) torn.chosen;
    short = short_same shape (hurt copy None (now log)) (struck log copy g) (view c) (λ s. refl) torn.short;
  }

  struck_pool : (place : Place) (x : AnyUnit) → struck log copy g place ≡ Some x → InHistoryPool (log ∷ logs) place x
  struck_pool (CopyPlace n) x shows = inl (torn_pool (CopyPlace n) x shows)
  struck_pool (HeaderPlace s) x shows = go (1 == s) refl shows
    where
      go : (b : Bool) → (1 == s) ≡ b
          → (if b then Some (HeaderUnit g) else now log (HeaderPlace s)) ≡ Some x → InHistoryPool (log ∷ logs) (HeaderPlace s) x
      go true at old = subst (λ (k : ℕ). InHistoryPool (log ∷ logs) (HeaderPlace k) x) (eqb-true 1 s at)
          (subst (λ (y : AnyUnit). InHistoryPool (log ∷ logs) (HeaderPlace 1) y) (let both : Some (HeaderUnit g) ≡ Some x = old in cc) was)
      go false at old = inl (is.rests.pooled (HeaderPlace s) x old)
  struck_pool (PreparePlace s) x shows = inl (is.rests.pooled (PreparePlace s) x shows)
  struck_pool (ReplyPlace k) x shows = inl (is.rests.pooled (ReplyPlace k) x shows)
  struck_pool (BlockPlace a) x shows = inl (is.rests.pooled (BlockPlace a) x shows)

  of_log : (place : Place) (x : AnyUnit) → InPool log place x → IsOurs x
  of_log place x at = pools_all IsOurs log.start log.events is.ours place x (pool_pools log.start log.events place x at)

  struck_places : AreOfPlaces shape (struck log copy g)
  struck_places (CopyPlace n) x shows = let a = struck_holds.bears.agrees (CopyPlace n) x shows in
      of_copy n x (of_log (CopyPlace n) x (torn_pool (CopyPlace n) x shows)) a.0 a.1
  struck_places (HeaderPlace s) x shows = go (1 == s) refl shows
    where
      go : (b : Bool)
          → (1 == s) ≡ b → (if b then Some (HeaderUnit g) else now log (HeaderPlace s)) ≡ Some x → IsOfPlace shape (HeaderPlace s) x
      go true at old = subst (λ (k : ℕ). IsOfPlace shape (HeaderPlace k) x) (eqb-true 1 s at)
          (subst (λ (y : AnyUnit). IsOfPlace shape (HeaderPlace 1) y) (let both : Some (HeaderUnit g) ≡ Some x = old in cc) is.older.0)
      go false at old = (reserved, (let both : Some (HeaderUnit reserved) ≡ Some x = sym (is.headers s at) ∙ old in let one : x ≡ HeaderUnit reserved = cc in one), omega arith, λ some. absurd (omega arith))
  struck_places (PreparePlace s) x shows = let a = struck_holds.bears.agrees (PreparePlace s) x shows in
      let ours_is : IsOurs (PrepareUnit a.0) = subst IsOurs a.1 (of_log (PreparePlace s) x (is.rests.pooled (PreparePlace s) x shows)) in
      (a.0, a.1, a.2.slot, rw (sym ours_is.0) at (in_range a.0.header.checksum))
  struck_places (ReplyPlace k) x shows = let a = struck_holds.bears.agrees (ReplyPlace k) x shows in
      absurd (subst IsOurs a.1 (of_log (ReplyPlace k) x (is.rests.pooled (ReplyPlace k) x shows)))
  struck_places (BlockPlace a) x shows = absurd (let both : None ≡ Some x = sym (is.no_block a) ∙ shows in cc)

  struck_start : MayStart log logs (struck log copy g)
  struck_start = record {
    settled_is = is.settled_is;
    chance = record { pooled = struck_pool; distinct = λ place other x y one two. distinct x y (ours place x one) (ours other y two) };
    copies = inr (record { content = c; four = is.copies; agreed = struck_holds.chosen.agreed });
  }

  -- the header is written anew, and the two copies
  slot : (s : ℕ) (b : Bool) → (1 == s) ≡ b → IsSlotHeader shape (struck log copy g) (view c) s (table s)
  slot s true at = subst (λ (k : ℕ). IsSlotHeader shape (struck log copy g) (view c) k (table k)) (eqb-true 1 s at) (record {
    from = inr (inl (renewed, inl refl, refl, refl));
    tail = λ p mine here. elim mine [ inl same ↦ ap (λ (q : Message). q.header) same | inr none ↦ absurd none ];
  })
  slot s false at = record {
    from = inl (ap (λ (b : Bool). if b then Some (HeaderUnit g) else now log (HeaderPlace s)) at
        ∙ is.headers s at ∙ ap (λ (b : Bool). Some (HeaderUnit (if b then renewed.header else reserved))) (sym at));
    tail = λ p mine here. elim mine [
      | inl same ↦ absurd (let one : s ≡ 1 = here ∙ ap (λ (q : Message).
          q.header.op % 16) same in let both : true ≡ false = ap (λ (k : ℕ). 1 == k) (sym one) ∙ at in cc)
      | inr none ↦ absurd none
    ];
  }

  struck_opening : IsOpening shape (struck log copy g) (view c) table (header_put renewed ∷ []) (copy_puts c) d
  struck_opening = record {
    may_mend = record {
      rests = anew_law shape (struck log copy g) (view c) struck_holds;
      quiet = λ place wet. absurd (let no_unit : false ≡ true = wet in cc);
      tells = λ s. slot s (1 == s) refl;
      puts_headers =
          ((λ place y at. let one = (put_one_law (HeaderPlace 1) (HeaderUnit renewed.header)).only place y at in (1, one.0, one.1)), tt);
      agreed = record { first = 0; second = 1; apart = omega arith; inside = omega arith; at_first = is.copies 0 (omega arith); at_second = is.copies 1 (omega arith) };
      puts_copies = (put_one_law (CopyPlace 2) (CopyUnit c), (λ e. omega arith), (λ e. omega arith), (put_one_law (CopyPlace 3) (CopyUnit c), (λ e. omega arith), (λ e. omega arith), tt));
      each_slot = λ s below. reaches s (1 == s) refl;
      each_copy = λ k below. elim (four k below) [
        | inl at ↦ inl (rw at (is.copies 0 (omega arith)))
        | inr (inl at) ↦ inl (rw at (is.copies 1 (omega arith)))
        | inr (inr (inl at)) ↦ inr (inl at)
        | inr (inr (inr at)) ↦ inr (inr (inl at))
      ];
    };
    may_boot = is.boot;
  }
    where
      reaches : (s : ℕ) (b : Bool) → (1 == s) ≡ b
          → (struck log copy g (HeaderPlace s) ≡ Some (HeaderUnit (table s))) ⊎ Reaches (header_put renewed ∷ []) (HeaderPlace s)
      reaches s true at = inr (inl (HeaderUnit renewed.header, ap (λ (b : Bool). if b then Some (HeaderUnit renewed.header) else None) at))
      reaches s false at = inl (ap (λ (b : Bool). if b then Some (HeaderUnit g) else now log (HeaderPlace s)) at
          ∙ is.headers s at ∙ ap (λ (b : Bool). Some (HeaderUnit (if b then renewed.header else reserved))) (sym at))

  struck_reopened : IsReopened shape logs log (struck log copy g) (view c) (next log c d copy g) (view d)
  struck_reopened = reopened logs log (struck log copy g) (view c) table (header_put renewed ∷ []) (copy_puts c) d (copies_of d) []
      (view d) lived struck_start struck_places (holds_found shape (struck log copy g) (view c) struck_holds) struck_opening
      (λ rests. ((rests_law shape (next log c d copy g) (view d) rests).0, rests))

  next_ours : IsOurs (CopyUnit c) → IsOurs (CopyUnit d) → All IsOurs (next log c d copy g).start (next log c d copy g).events
  next_ours c_ours d_ours = let l0 : UnitLog = record { start = struck log copy g; events = [] } in
      let l1 : UnitLog = add Synced (wrote (header_put renewed) l0) in
      let l2 : UnitLog = add Synced (wrote (put_one (CopyPlace 2) (CopyUnit c)) l1) in
      let l3 : UnitLog = add Synced (wrote (put_one (CopyPlace 3) (CopyUnit c)) l2) in
      let a1 : All IsOurs l1.start l1.events = put_all IsOurs (HeaderPlace 1) (HeaderUnit renewed.header) l0 refl (λ place x shows.
      ours place x (history_pools (log ∷ logs) place x (struck_pool place x shows))) in copies_all
      IsOurs d d_ours l3 (put_all IsOurs (CopyPlace 3) (CopyUnit c) l2 c_ours (put_all IsOurs (CopyPlace 2) (CopyUnit c) l1 c_ours a1))

  next_headers : (s : ℕ) → (1 == s) ≡ false → now (next log c d copy g) (HeaderPlace s) ≡ Some (HeaderUnit reserved)
  next_headers s at = ap (λ (b : Bool). or_else (if b then Some (HeaderUnit renewed.header) else None)
      (if b then Some (HeaderUnit g) else now log (HeaderPlace s))) at ∙ is.headers s at

-- ---- the boots

-- from a boot whose superblock records as many prepares as this
boots : (b n sum : ℕ) → n ≤ 1 → b < 9 → MayBoot (view (record (content b) { head = n; pin = n; pin_checksum = sum })) (pinned 6 (b + 1))
boots b n sum low small =
    may_raise (view (record (content b) { head = n; pin = n; pin_checksum = sum })) (b + 1) 6 [] refl (omega (arith, small)) (record {
      pin_from = (low, omega arith);
      pin_to = omega arith;
      checksum = refl;
      answered = (omega arith, omega arith);
      stored = λ k r at. absurd (never_kept (slice_get (sessions (view (content 2))) k) 0 r at);
      unstored = λ k none. refl;
      spare = λ k none. refl;
    })

-- ---- the second damage, and the third

is_hurt : IsStruck renewing (content 2) (pinned 6 3) None reserved
is_hurt = record {
  rests = renews.leads.rests;
  ours = renewing_ours;
  settled_is = synced_settled (wrote (header_put renewed) (add Synced (wrote (prepare_put renewed) third)));
  copies = copies_are (content 2) (now renewing) refl refl refl refl;
  headers = λ s at. ap (λ (b : Bool). or_else (if b then Some (HeaderUnit renewed.header) else None) (Some (HeaderUnit reserved))) at;
  no_block = λ a. refl;
  old = λ x none. absurd (let both : None ≡ Some x = none in cc);
  older = ((reserved, refl, omega arith, λ some. absurd (omega arith)), record { op = λ own. omega arith; ring = omega arith; checkpoint = omega arith; boot = omega arith; slot = λ some. absurd (omega arith); in_tail = λ own. absurd (omega (arith, own)) });
  boot = boots 2 0 0 (omega arith) (omega arith);
}

ours2 : AreOurs (renewing ∷ second ∷ made ∷ [])
ours2 = (renewing_ours, (second_ours, (made_ours, tt)))

shown2 : InHistoryPool (renewing ∷ second ∷ made ∷ []) (HeaderPlace 1) (HeaderUnit reserved)
shown2 = inl (inl (inr (inl refl)))

abbrev fourth : UnitLog
fourth = next renewing (content 2) (pinned 6 3) None reserved

twice : IsReopened shape (second ∷ made ∷ []) renewing (struck renewing None reserved) (view (content 2)) fourth (view (pinned 6 3))
twice = struck_reopened (second ∷ made
    ∷ []) renewing (content 2) (pinned 6 3) None reserved is_hurt once.lived (pools_ours (renewing ∷ second ∷ made ∷ []) ours2) shown2

fourth_ours : All IsOurs fourth.start fourth.events
fourth_ours = next_ours (second ∷ made ∷ []) renewing (content 2) (pinned 6 3)
    None reserved is_hurt once.lived (pools_ours (renewing ∷ second ∷ made ∷ []) ours2) shown2 (refl, omega arith) (refl, omega arith)

is_struck : IsStruck fourth (pinned 6 3) (pinned 6 4) (Some (CopyUnit (content 2))) prepare.header
is_struck = record {
  rests = twice.rests;
  ours = fourth_ours;
  settled_is = synced_settled (wrote (put_one (CopyPlace 3) (CopyUnit (pinned 6 3))) (after_steps (Puts (put_one (CopyPlace 0) (CopyUnit (pinned 6 3))) ∷ Syncs ∷ Puts (put_one (CopyPlace 1) (CopyUnit (pinned 6 3))) ∷ Syncs ∷ Puts (put_one (CopyPlace 2) (CopyUnit (pinned 6 3))) ∷ Syncs ∷ [])
      (after_steps
      (mend_steps (header_put renewed ∷ []) (copy_puts (content 2))) (record { start = struck renewing None reserved; events = [] }))));
  copies = copies_are (pinned 6 3) (now fourth) refl refl refl refl;
  headers = next_headers (second ∷ made
      ∷ []) renewing (content 2) (pinned 6 3) None reserved is_hurt once.lived (pools_ours (renewing ∷ second ∷ made ∷ []) ours2) shown2;
  no_block = λ a. refl;
  old = λ x same. (inl (inr (inr (inl same))), inl (inr (inr (inl same))));
  older = ((prepare.header, refl, omega arith, λ some. (refl, in_range 5)), record { op = λ own. absurd (omega (arith, own)); ring = omega arith; checkpoint = omega arith; boot = omega arith; slot = λ some. refl; in_tail = λ own. absurd (omega (arith, own)) });
  boot = boots 3 1 6 (omega arith) (omega arith);
}

abbrev fifth : UnitLog
fifth = next fourth (pinned 6 3) (pinned 6 4) (Some (CopyUnit (content 2))) prepare.header

thrice : IsReopened shape (renewing
    ∷ second ∷ made ∷ []) fourth (struck fourth (Some (CopyUnit (content 2))) prepare.header) (view (pinned 6 3)) fifth (view (pinned 6 4))
thrice = struck_reopened (renewing ∷ second ∷ made ∷ []) fourth (pinned 6 3) (pinned 6 4) (Some (CopyUnit (content 2))) prepare.header
    is_struck twice.lived (pools_ours (fourth ∷ renewing ∷ second ∷ made ∷ []) (fourth_ours, ours2)) (inr (inr (inl (inl (inl refl)))))

pub thrice_sample_law : ThriceSampleLaw
thrice_sample_law = record {
  shape = shape;
  made = made;
  second = second;
  third = renewing;
  fourth = fourth;
  fifth = fifth;
  appended = appended (first 1) (prepare ∷ []);
  bare = first 1;
  kept = view (content 2);
  raised = view (pinned 6 3);
  last = view (pinned 6 4);
  lost = shown;
  hurt = struck renewing None reserved;
  struck = struck fourth (Some (CopyUnit (content 2))) prepare.header;
  old = prepare;
  anew = renewed;
  lived = lived2;
  rests = appends.leads.rests;
  once = once;
  twice = twice;
  thrice = thrice;
  tails = (refl, refl, refl, refl, refl);
  boots = (refl, refl, refl, refl);
  one_op = (refl, omega arith);
  hurt_copies = (refl, refl);
  struck_copies = (content 2, omega arith, refl, refl);
  struck_header = refl;
}
