-- A group of prepares, written one after the other and synced once.
use Rattle.std.{proofs.{Common.{◌≡◌, ◌⊎◌, inl, inr, ℕ, ◌||◌, false, ◌+◌, ◌%◌, ◌<◌, ◌≤◌, List, [], ◌∷◌, ◌++◌, length, Option, Some, None, refl, sym, ◌∙◌, ap, subst, arith, length-append}, lemmas.Bool.{cases_eq, cases_lt, cases_Bool}}, specs.List.{slice_get}}
use Rattle.df_theory.{specs.{Units.{AnyUnit, BlockPlace, CopyPlace, HeaderPlace, Message, Place, PreparePlace, PrepareUnit, ReplyPlace, Units, is_some, or_else, overlay}, Sessions.{sessions_after}, Tails.{IsCutOff, In, last_checksum, last_mark}, Shape.{Shape}, Copies.{IsChosen}, View.{View, boot_of, head}, Shows.{Agrees, Needs}, Groups.{AreMore, ShowsOwn}, Holds.{Holds, Sound}, Next.{Append, AreInTurn, MayAppend, appended}, UnitLog.{IsLeftBy, PutsOne, Synced, UnitLog, add, loose, now, settled, wrote}, Chance.{AreFair, InImages, InPool}, Grown.{AllInHistory, GoesOn, Grows, InView, IsClear, IsSurvivor}, Rests.{IsBlock, IsGoodLog, IsQuiet, RestsOn, Stepped}, Runs.{AtEach, after_steps}, MakingLaws.{all_puts}, WriterLaws.{AllPutPrepare, AreSame}}, proofs.{Tails.{chain_ops, in_back, in_either, turn_ops}, Slots.{mod_apart}, Images.{IsClearIn, chosen_same, short_clear}, Grew.{agrees_grew, next_grew}, Torn.{IsPooled, Outcome}, Steps.{goes_same, old_agrees, safe_if, synced_rests}, Puts.{block_agrees, block_in_view}, Appends.{kept_some}, Sounds.{append_sound}, Founds.{chain_at}}}

-- the view that is left
pub record IsNext (sh : Shape) (images : List Units) (v u : View) (j : Units) : Type 0 where
  pub outcome : Outcome sh images v j
  pub which : (outcome.view ≡ v) ⊎ (outcome.view ≡ u)

module _ (sh : Shape) (v : View) (ps : List Message) (sound : Sound sh v) (may : MayAppend sh v ps) (boots : 1 < length ps → 0 < boot_of v) where
  abbrev slot : Message → Place
  slot p = PreparePlace (p.header.op % sh.layout.slots)

  -- a log on which what the view needs is firm, and a part of the group may be loose
  pub record IsMid (log : UnitLog) : Type 0 where
    pub fair : AreFair log.start log.events
    pub grows : Grows sh (settled log) v
    pub clear : IsClear (settled log) v
    pub needs : (place : Place) (x : AnyUnit) → Needs sh v place x → (loose log place ≡ false) × (now log place ≡ Some x)
    pub copies : (n : ℕ) → loose log (CopyPlace n) ≡ false
    pub chosen : IsChosen (now log) v.checkpoint.content
    pub pool : (place : Place) (x : AnyUnit) → InPool log place x → InImages (settled log) place x
        ⊎ IsBlock place ⊎ ((q : Message) × In q ps × (place ≡ PreparePlace (q.header.op % sh.layout.slots)) × (x ≡ PrepareUnit q))
    pub pooled : IsPooled log (now log)

  ops : (q : Message) → In q ps → (head v < q.header.op) × (q.header.op ≤ head v + length ps)
  ops q at = let t = turn_ops (head v + 1) (last_checksum v.checkpoint.content.op_checksum v.tail) ps q may.is.turn at in
      (omega (arith, t.0), omega (arith, t.1))

  -- the slots of the group hold nothing of the tail
  pub group_slot : (q : Message) → In q ps → (y : AnyUnit) → Needs sh v (PreparePlace (q.header.op % sh.layout.slots)) y → ⊥
  group_slot q at y need = let t = chain_ops sh.layout.clients
      (v.checkpoint.content.op + 1) v.checkpoint.content.op_checksum 0 v.checkpoint.parts.sessions v.tail need.0 sound.chain need.1 in
      let o = ops q at in
      mod_apart sh.layout.slots need.0.header.op q.header.op sh.some (omega (arith, t.1, o.0)) (omega (arith, t.0, o.1, may.room)) (sym need.2)

  turn_one : (op parent : ℕ) (qs : List Message) (p q : Message)
      → AreInTurn op parent qs → In p qs → In q qs → p.header.op ≡ q.header.op → p ≡ q
  turn_one op parent [] p q turn none other same = absurd none
  turn_one op parent (x ∷ qs) p q turn (inl a) (inl b) same = a ∙ sym b
  turn_one op parent (x ∷ qs) p q turn (inl a) (inr b) same = let is : p.header.op ≡ x.header.op = ap (λ (w : Message). w.header.op) a in
      absurd (omega (arith, (turn_ops (op + 1) x.header.checksum qs q turn.2 b).0, turn.0))
  turn_one op parent (x ∷ qs) p q turn (inr a) (inl b) same = let is : q.header.op ≡ x.header.op = ap (λ (w : Message). w.header.op) b in
      absurd (omega (arith, (turn_ops (op + 1) x.header.checksum qs p turn.2 a).0, turn.0))
  turn_one op parent (x ∷ qs) p q turn (inr a) (inr b) same = turn_one (op + 1) x.header.checksum qs p q turn.2 a b same

  -- a slot of the group is of one of its prepares
  slot_one : (p q : Message) → In p ps → In q ps → p.header.op % sh.layout.slots ≡ q.header.op % sh.layout.slots → p ≡ q
  slot_one p q at there same = elim (cases_eq p.header.op q.header.op) [
    | inl op ↦ turn_one (head v + 1) (last_checksum v.checkpoint.content.op_checksum v.tail) ps p q may.is.turn at there op
    | inr apart ↦ let a = ops p at in let b = ops q there in elim (cases_lt p.header.op q.header.op) [
      | inl less ↦ absurd (mod_apart sh.layout.slots p.header.op q.header.op sh.some less (omega (arith, a.0, b.1, may.room)) same)
      | inr more ↦
          absurd (mod_apart sh.layout.slots q.header.op p.header.op sh.some (omega arith) (omega (arith, b.0, a.1, may.room)) (sym same))
    ]
  ]

  -- ---- one more write

  module _ (log : UnitLog) (mid : IsMid log)
      (q : Message) (at : In q ps) (put : Units) (one : PutsOne put (PreparePlace (q.header.op % sh.layout.slots)) (PrepareUnit q)) where
    away : (place : Place) → ((y : AnyUnit) → put place ≡ Some y → ⊥)
        → loose log place ≡ false → (loose (wrote put log) place ≡ false) × (now (wrote put log) place ≡ now log place)
    away place apart firm = go (put place) refl
      where
        go : (o : Option AnyUnit) → put place ≡ o → (loose (wrote put log) place ≡ false) × (now (wrote put log) place ≡ now log place)
        go None none = (λ i. is_some (none i) || firm i, λ i. or_else (none i) (now log place))
        go (Some y) some = absurd (apart y some)

    no_copy : (n : ℕ) (y : AnyUnit) → put (CopyPlace n) ≡ Some y → ⊥
    no_copy n y is = let same = (one.only (CopyPlace n) y is).0 in cc

    now_known : (place : Place) (x : AnyUnit)
        → or_else (put place) (now log place) ≡ Some x → (o : Option AnyUnit) → put place ≡ o → InPool (wrote put log) place x
    now_known place x is (Some y) there = inr (inl (there ∙ sym (ap (λ (o : Option AnyUnit). or_else o (now log place)) there) ∙ is))
    now_known place x is None there = elim (mid.pooled place x (sym (ap (λ (o : Option AnyUnit). or_else o (now log place)) there) ∙ is)) [
      | inl old ↦ inl old
      | inr new ↦ inr (inr new)
    ]

    pub mid_wrote : IsMid (wrote put log)
    mid_wrote = record {
      fair = mid.fair;
      grows = mid.grows;
      clear = mid.clear;
      needs = λ place x need. let was = mid.needs place x need in
          let still = away place (λ y is. group_slot q at x (rw (one.only place y is).0 at need)) was.0 in (still.0, still.1 ∙ was.1);
      copies = λ n. (away (CopyPlace n) (no_copy n) (mid.copies n)).0;
      chosen = chosen_same (now log) (now (wrote put log)) v.checkpoint.content (λ n.
          (away (CopyPlace n) (no_copy n) (mid.copies n)).1) mid.chosen;
      pool = λ place x known. elim known [
        | inl old ↦ inl old
        | inr (inl new) ↦ let here = one.only place x new in inr (inr (q, at, here.0, here.1))
        | inr (inr pending) ↦ mid.pool place x (inr pending)
      ];
      pooled = λ place x is. now_known place x is (put place) refl;
    }

  -- ---- what a stop may leave

  module _ (log : UnitLog) (mid : IsMid log) (j : Units) (left : IsLeftBy log j) (pooled : IsPooled log j) where
    from : (place : Place) (x : AnyUnit) → j place ≡ Some x → InImages (settled log) place x
        ⊎ IsBlock place ⊎ ((q : Message) × In q ps × (place ≡ PreparePlace (q.header.op % sh.layout.slots)) × (x ≡ PrepareUnit q))
    from place x is = mid.pool place x (pooled place x is)

    needs_v : (place : Place) (x : AnyUnit) → Needs sh v place x → j place ≡ Some x
    needs_v place x need = let n = mid.needs place x need in left place n.0 ∙ n.1

    chosen_j : IsChosen j v.checkpoint.content
    chosen_j = chosen_same (now log) j v.checkpoint.content (λ n. left (CopyPlace n) (mid.copies n)) mid.chosen

    -- its prepare, or what was settled there
    abbrev pub IsMissing : Message → Type 0
    IsMissing p = (x : AnyUnit) → j (slot p) ≡ Some x → InImages (settled log) (slot p) x

    one_shown : (p : Message) → In p ps → (o : Option AnyUnit) → j (slot p) ≡ o → (j (slot p) ≡ Some (PrepareUnit p)) ⊎ IsMissing p
    one_shown p at None is = inr (λ x shown. absurd (let both : None ≡ Some x = sym is ∙ shown in cc))
    one_shown p at (Some y) is = elim (from (slot p) y is) [
      | inl old ↦ inr (λ x shown.
          subst (λ (z : AnyUnit). InImages (settled log) (slot p) z) (let both : Some y ≡ Some x = sym is ∙ shown in cc) old)
      | inr (inl block) ↦ absurd block
      | inr (inr new) ↦ let same : p ≡ new.0 = slot_one p new.0 at new.1 (let e = new.2 in cc) in
          inl (is ∙ ap Some (new.3 ∙ ap PrepareUnit (sym same)))
    ]

    all_shown : (qs : List Message) → ((p : Message) → In p qs → In p ps)
        → ((p : Message) → In p qs → j (slot p) ≡ Some (PrepareUnit p)) ⊎ ((p : Message) × In p ps × IsMissing p)
    all_shown [] inside = inl (λ p none. absurd none)
    all_shown (q ∷ qs) inside = elim (one_shown q (inside q (inl refl)) (j (slot q)) refl) [
      | inr missing ↦ inr (q, inside q (inl refl), missing)
      | inl here ↦ elim (all_shown qs (λ p at. inside p (inr at))) [
        | inr missing ↦ inr missing
        | inl rest ↦ inl (λ p at. elim at [
          | inl is ↦ rw (sym is) at here
          | inr there ↦ rest p there
        ])
      ]
    ]

    -- ---- all of it

    goes : GoesOn (settled log) v (appended v ps)
    goes = record { next = Append ps may.is; clear = inr (inr mid.clear) }

    later : Sound sh (appended v ps)
    later = append_sound sh v ps sound may

    head_later : head (appended v ps) ≡ head v + length ps
    head_later = omega (arith, length-append v.tail ps)

    new_agrees : (q : Message) → In q ps → Agrees sh (appended v ps) (slot q) (PrepareUnit q)
    new_agrees q at = let o = ops q at in let stamped = may.is.stamped q at in (
      q,
      refl,
      record {
        some = omega (arith, o.0);
        op = λ own. inl (omega (arith, o.1, head_later));
        ring = omega (arith, o.1, may.room);
        checkpoint = omega (arith, stamped.checkpoint);
        boot = omega (arith, stamped.boot);
        slot = refl;
        in_tail = λ own above to. in_back q v.tail ps at;
      },
    )

    stays_old : (place : Place) (x : AnyUnit) → InImages (settled log) place x → Agrees sh (appended v ps) place x
    stays_old place x old = agrees_grew sh v (appended v ps) (next_grew sh v (appended v ps) sound (Append ps may.is)) place x
        (inr (inr (λ s p is unit own. mid.clear s p (rw is at (rw unit at old)) own))) (old_agrees sh (settled log) v mid.grows place x old)

    agrees_u : (place : Place) (x : AnyUnit) → j place ≡ Some x → Agrees sh (appended v ps) place x
    agrees_u place x is = elim (from place x is) [
      | inl old ↦ stays_old place x old
      | inr (inl block) ↦ block_agrees sh (appended v ps) place x block
      | inr (inr new) ↦ rw new.2 (rw new.3 (new_agrees new.0 new.1))
    ]

    needs_u : ((p : Message) → In p ps → j (slot p) ≡ Some (PrepareUnit p))
        → (place : Place) (x : AnyUnit) → Needs sh (appended v ps) place x → j place ≡ Some x
    needs_u all (CopyPlace n) x need = absurd need
    needs_u all (HeaderPlace s) x need = absurd need
    needs_u all (PreparePlace s) x need = elim (in_either need.0 v.tail ps need.1) [
      | inl old ↦ needs_v (PreparePlace s) x (need.0, old, need.2, need.3)
      | inr new ↦ ap (λ (n : ℕ). j (PreparePlace n)) need.2 ∙ all need.0 new ∙ ap Some (sym need.3)
    ]
    needs_u all (ReplyPlace k) x need = needs_v (ReplyPlace k) x (need.0, kept_some (slice_get (sessions_after v.checkpoint.parts.sessions (v.tail ++ ps)) k) (head v) (v.stored k) need.0 need.1, need.2)
    needs_u all (BlockPlace a) x need = needs_v (BlockPlace a) x need

    clear_u : IsClearIn j (appended v ps)
    clear_u s p is own = elim (from (PreparePlace s) (PrepareUnit p) is) [
      | inl old ↦ omega (arith, mid.clear s p old own, head_later)
      | inr (inl block) ↦ absurd block
      | inr (inr new) ↦ let same : new.0 ≡ p = (let e = new.3 in cc) in
          omega (arith, (ops new.0 new.1).1, ap (λ (w : Message). w.header.op) same, head_later)
    ]

    pub whole_holds : ((p : Message) → In p ps → j (slot p) ≡ Some (PrepareUnit p)) → Holds sh j (appended v ps)
    whole_holds all = record { bears = record { sound = later; agrees = agrees_u; needs = needs_u all }; chosen = chosen_j; short = short_clear sh j (appended v ps) clear_u }

    pub whole_history : AllInHistory (settled log) j (appended v ps)
    whole_history place x is = elim (from place x is) [
      | inl old ↦ inl (inl old)
      | inr (inl block) ↦ inl (inr (block_in_view (appended v ps) place x block))
      | inr (inr new) ↦ inl (inr (rw new.2 (new.0, new.3, in_back new.0 v.tail ps new.1)))
    ]

    -- ---- a part of it

    -- where the group has one prepare, what is missing is all of it
    sole : (qs : List Message) (p q : Message) → In p qs → In q qs → length qs ≤ 1 → p ≡ q
    sole [] p q none there few = absurd none
    sole (x ∷ []) p q (inl a) (inl b) few = a ∙ sym b
    sole (x ∷ []) p q (inr none) there few = absurd none
    sole (x ∷ []) p q (inl a) (inr none) few = absurd none
    sole (x ∷ y ∷ qs) p q at there few = absurd (omega arith)

    new_cut : 1 < length ps → (q : Message) → In q ps → IsCutOff (head v) q.header
    new_cut several q at = let stamped = may.is.stamped q at in
        record { boot = omega (arith, stamped.boot, boots several); first = stamped.group; several = omega (arith, stamped.group, stamped.group_last); above = (ops q at).0 }

    part_from : (p : Message) → In p ps → IsMissing p → (place : Place) (x : AnyUnit) → j place ≡ Some x → InImages (settled log) place x ⊎ IsBlock place ⊎ ((q : Message) × In q ps × (place ≡ PreparePlace (q.header.op % sh.layout.slots)) × (x ≡ PrepareUnit q) × IsCutOff (head v) q.header)
    part_from p at missing place x is = elim (from place x is) [
      | inl old ↦ inl old
      | inr (inl block) ↦ inr (inl block)
      | inr (inr new) ↦ elim (cases_lt 1 (length ps)) [
        | inl several ↦ inr (inr (new.0, new.1, new.2, new.3, new_cut several new.0 new.1))
        | inr few ↦ let same : p ≡ new.0 = sole ps p new.0 at new.1 (omega arith) in
            let place_is : place ≡ slot p = new.2 ∙ ap slot (sym same) in inl (rw (sym place_is) at (missing x (ap j (sym place_is) ∙ is)))
      ]
    ]

    module _ (p : Message) (at : In p ps) (missing : IsMissing p) where
      -- the missing op isn't shown anywhere
      lacks : (s : ℕ) (t : Message) → j (PreparePlace s) ≡ Some (PrepareUnit t) → t.header.boot ≡ boot_of v → t.header.op ≡ p.header.op → ⊥
      lacks s t shown own op = elim (from (PreparePlace s) (PrepareUnit t) shown) [
        | inl old ↦ omega (arith, mid.clear s t old own, (ops p at).0)
        | inr (inl block) ↦ absurd block
        | inr (inr new) ↦ let same : new.0 ≡ t = (let e = new.3 in cc) in let place_is : PreparePlace s ≡ slot p =
            new.2 ∙ ap (λ (w : Message). slot w) same ∙ ap (λ (n : ℕ). PreparePlace (n % sh.layout.slots)) op in
            let old = missing (PrepareUnit t) (ap j (sym place_is) ∙ shown) in
            omega (arith, mid.clear (p.header.op % sh.layout.slots) t old own, (ops p at).0)
      ]

      part_agrees : (q : Message) → In q ps → IsCutOff (head v) q.header → Agrees sh v (slot q) (PrepareUnit q)
      part_agrees q there cut = let o = ops q there in let stamped = may.is.stamped q there in (
        q,
        refl,
        record {
          some = omega (arith, o.0);
          op = λ own. inr cut;
          ring = omega (arith, o.1, may.room);
          checkpoint = omega (arith, stamped.checkpoint);
          boot = omega (arith, stamped.boot);
          slot = refl;
          in_tail = λ own above to. absurd (omega (arith, o.0));
        },
      )

      agrees_v : (place : Place) (x : AnyUnit) → j place ≡ Some x → Agrees sh v place x
      agrees_v place x is = elim (part_from p at missing place x is) [
        | inl old ↦ old_agrees sh (settled log) v mid.grows place x old
        | inr (inl block) ↦ block_agrees sh v place x block
        | inr (inr new) ↦ rw new.2 (rw new.3 (part_agrees new.0 new.1 new.4))
      ]

      -- what is shown above the head is of the group
      above_of : (t : Message) → j (slot t) ≡ Some (PrepareUnit t) → t.header.boot ≡ boot_of v → head v < t.header.op → In t ps
      above_of t is own above = elim (from (slot t) (PrepareUnit t) is) [
        | inl old ↦ absurd (omega (arith, mid.clear (t.header.op % sh.layout.slots) t old own))
        | inr (inl block) ↦ absurd block
        | inr (inr new) ↦ subst (λ (w : Message). In w ps) (let e = new.3 in cc) new.1
      ]

      short_of : (qs : List Message) → AreMore sh (ShowsOwn sh.layout.slots j v.checkpoint.content) v.checkpoint v.tail qs → ⊥
      short_of [] more = omega (arith, more.some)
      short_of (r ∷ rs) more = let chain = more.behind.chain in
          let first : r.header.op ≡ v.checkpoint.content.op + 1 + length v.tail = chain.0.op_is in
          let shown = more.behind.shown r (inl refl) in let of : In r ps = above_of r shown.shown shown.own (omega (arith, first)) in
          let last : r.header.group_last ≡ head v + length ps = (may.is.stamped r of).group_last in let enough = more.ends r (inl refl) in
          let o = ops p at in
          let t = chain_at sh.layout.clients (v.checkpoint.content.op + 1 + length v.tail) (last_checksum v.checkpoint.content.op_checksum v.tail) (last_mark 0 v.tail) (sessions_after v.checkpoint.parts.sessions v.tail) (r ∷ rs) p.header.op chain (omega (arith, o.0)) (omega (arith, o.1, enough, last)) in
          let there = more.behind.shown t.0 t.1 in lacks (t.0.header.op % sh.layout.slots) t.0 there.shown there.own t.2

      pub part_holds : Holds sh j v
      part_holds = record { bears = record { sound = sound; agrees = agrees_v; needs = needs_v }; chosen = chosen_j; short = short_of }

      pub part_history : AllInHistory (settled log) j v
      part_history place x is = elim (part_from p at missing place x is) [
        | inl old ↦ inl (inl old)
        | inr (inl block) ↦ inl (inr (block_in_view v place x block))
        | inr (inr new) ↦ let stamped = may.is.stamped new.0 new.1 in inr (rw new.2 (
          new.0,
          new.3,
          record {
            clear = mid.clear;
            own = stamped.boot;
            cut = new.4;
            missing = p.header.op;
            from = (ops p at).0;
            to = omega (arith, (ops p at).1, stamped.group_last);
            lacks = lacks;
          },
        ))
      ]

    pub next_is : IsNext sh (settled log) v (appended v ps) j
    next_is = elim (all_shown ps (λ p at. at)) [
      | inl all ↦ record { outcome = record { view = appended v ps; next = goes; holds = whole_holds all; history = whole_history }; which = inr refl }
      | inr missing ↦ record { outcome = record { view = v; next = goes_same (settled log) v; holds = part_holds missing.0 missing.1 missing.2; history = part_history missing.0 missing.1 missing.2 }; which = inl refl }
    ]

  -- ---- the moments

  pub moment : (log : UnitLog) → IsMid log → IsGoodLog sh v (appended v ps) log
  moment log mid = record {
    safe = safe_if sh log v mid.fair mid.grows mid.pooled (λ j left pooled. (next_is log mid j left pooled).outcome);
    left = λ j left chance. let n = next_is log mid j left chance.pooled in elim n.which [
      | inl is ↦ inl (rw is at n.outcome.holds)
      | inr is ↦ inr (rw is at n.outcome.holds)
    ];
  }

  pub moments : (qs : List Message) (puts : List Units) (log : UnitLog) → ((p : Message) → In p qs → In p ps) → AllPutPrepare sh qs puts
      → IsMid log → AtEach (IsGoodLog sh v (appended v ps)) log (all_puts puts) × IsMid (after_steps (all_puts puts) log)
  moments [] [] log inside all mid = (moment log mid, mid)
  moments (q ∷ qs) (put ∷ puts) log inside all mid =
      let rest = moments qs puts (wrote put log) (λ p at. inside p (inr at)) all.1 (mid_wrote log mid q (inside q (inl refl)) put all.0) in
      ((moment log mid, rest.0), rest.1)
  moments [] (put ∷ puts) log inside all mid = absurd all
  moments (q ∷ qs) [] log inside all mid = absurd all

  -- what is written stays
  stays_one : (image put : Units) (p q : Message) → In p ps → In q ps → PutsOne put (PreparePlace (q.header.op % sh.layout.slots)) (PrepareUnit q) → image (PreparePlace (p.header.op % sh.layout.slots)) ≡ Some (PrepareUnit p) → overlay put image (PreparePlace (p.header.op % sh.layout.slots)) ≡ Some (PrepareUnit p)
  stays_one image put p q at there one shown = go (put (PreparePlace (p.header.op % sh.layout.slots))) refl
    where
      go : (o : Option AnyUnit) → put (PreparePlace (p.header.op % sh.layout.slots)) ≡ o
          → overlay put image (PreparePlace (p.header.op % sh.layout.slots)) ≡ Some (PrepareUnit p)
      go None none = ap (λ (o : Option AnyUnit). or_else o (image (PreparePlace (p.header.op % sh.layout.slots)))) none ∙ shown
      go (Some y) some = let here = one.only (PreparePlace (p.header.op % sh.layout.slots)) y some in
          let same : p ≡ q = slot_one p q at there (let e = here.0 in cc) in
          ap (λ (o : Option AnyUnit). or_else o (image (PreparePlace (p.header.op % sh.layout.slots)))) some
          ∙ ap Some (here.1 ∙ ap PrepareUnit (sym same))

  stays : (qs : List Message) (puts : List Units) (log : UnitLog) (p : Message) → ((q : Message) → In q qs → In q ps) → AllPutPrepare sh qs puts → In p ps → now log (PreparePlace (p.header.op % sh.layout.slots)) ≡ Some (PrepareUnit p) → now (after_steps (all_puts puts) log) (PreparePlace (p.header.op % sh.layout.slots)) ≡ Some (PrepareUnit p)
  stays [] [] log p inside all at shown = shown
  stays (q ∷ qs) (put ∷ puts) log p inside all at shown = stays qs puts (wrote put log) p (λ r there.
      inside r (inr there)) all.1 at (stays_one (now log) put p q at (inside q (inl refl)) all.0 shown)
  stays [] (put ∷ puts) log p inside all at shown = absurd all
  stays (q ∷ qs) [] log p inside all at shown = absurd all

  pub shows : (qs : List Message) (puts : List Units) (log : UnitLog) (p : Message) → ((q : Message) → In q qs → In q ps) → AllPutPrepare
      sh qs puts → In p qs → now (after_steps (all_puts puts) log) (PreparePlace (p.header.op % sh.layout.slots)) ≡ Some (PrepareUnit p)
  shows [] puts log p inside all none = absurd none
  shows (q ∷ qs) [] log p inside all at = absurd all
  shows (q ∷ qs) (put ∷ puts) log p inside all (inr there) = shows qs puts (wrote put log) p (λ r at. inside r (inr at)) all.1 there
  shows (q ∷ qs) (put ∷ puts) log p inside all (inl here) =
      let first : overlay put (now log) (PreparePlace (q.header.op % sh.layout.slots)) ≡ Some (PrepareUnit q) =
      ap (λ (o : Option AnyUnit). or_else o (now log (PreparePlace (q.header.op % sh.layout.slots)))) all.0.at in
      let later_on = stays qs puts (wrote put log) q (λ r at. inside r (inr at)) all.1 (inside q (inl refl)) first in
      subst (λ (w : Message). now (after_steps (all_puts (put ∷ puts)) log) (PreparePlace (w.header.op % sh.layout.slots))
      ≡ Some (PrepareUnit w)) (sym here) later_on

  pub begins : (log : UnitLog) → RestsOn sh log v → IsQuiet log → IsClear (settled log) v → IsMid log
  begins log rests quiet clear = record {
    fair = rests.fair;
    grows = rests.grows;
    clear = clear;
    needs = λ place x need. elim (cases_Bool (loose log place)) [
      | inl wet ↦ absurd ((rests.calm place wet).needless x need)
      | inr firm ↦ (firm, rests.holds.bears.needs place x need)
    ];
    copies = λ n. elim (cases_Bool (loose log (CopyPlace n))) [
      | inl wet ↦ absurd (quiet (CopyPlace n) wet)
      | inr firm ↦ firm
    ];
    chosen = rests.holds.chosen;
    pool = λ place x known. elim known [
      | inl old ↦ inl old
      | inr pending ↦ inr (inl (quiet place (rests.pending place x pending).0))
    ];
    pooled = rests.pooled;
  }

  -- once they are synced the log rests on the view with all of them
  pub group_synced : (qs : List Message) (puts : List Units) (log : UnitLog)
      → AreSame qs ps → AllPutPrepare sh qs puts → IsMid log → RestsOn sh (add Synced (after_steps (all_puts puts) log)) (appended v ps)
  group_synced qs puts log same all mid_first = let done : UnitLog = after_steps (all_puts puts) log in
      let mid : IsMid done = (moments qs puts log same.there all mid_first).1 in
      let here : (p : Message) → In p ps → now done (PreparePlace (p.header.op % sh.layout.slots)) ≡ Some (PrepareUnit p) =
      λ p at. shows qs puts log p same.there all (same.back p at) in synced_rests sh done (appended v ps) (record {
        fair = mid.fair;
        grows = (
          whole_holds done mid (now done) (λ place firm. refl) mid.pooled here,
          inr (whole_history done mid (now done) (λ place firm. refl) mid.pooled, (v, goes done mid (now done) (λ place firm. refl) mid.pooled, mid.grows)),
        );
      })

-- one prepare
pub prepare_step : (sh : Shape) (log : UnitLog) (v : View) (put : Units) (p : Message) → RestsOn sh log v → IsQuiet log → IsClear (settled log) v → MayAppend sh v (p ∷ []) → PutsOne put (PreparePlace (p.header.op % sh.layout.slots)) (PrepareUnit p) → Stepped sh log put v (appended v (p ∷ []))
prepare_step sh log v put p rests quiet clear may one = let sound : Sound sh v = rests.holds.bears.sound in
    let few : 1 < length (p ∷ []) → 0 < boot_of v = λ several. absurd (omega (arith, several)) in
    let mid = begins sh v (p ∷ []) sound may few log rests quiet clear in record {
      good = moment sh v (p ∷ []) sound may few (wrote put log) (mid_wrote sh v (p ∷ []) sound may few log mid p (inl refl) put one);
      rests = group_synced sh v (p ∷ []) sound may few (p ∷ []) (put ∷ []) log (record { there = λ q at. at; back = λ q at. at }) (one, tt) mid;
    }
