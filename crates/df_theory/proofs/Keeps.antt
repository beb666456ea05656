-- What each writer leaves whole.
use Rattle.std.proofs.{Common.{◌≡◌, ◌⊎◌, inl, inr, ℕ, ◌+◌, ◌-◌, ◌%◌, ◌<◌, ◌||◌, [], ◌∷◌, Option, Some, None, refl, sym, ◌∙◌, ap, arith}, lemmas.Bool.{cases_eq}}
use Rattle.df_theory.{specs.{Units.{AnyUnit, BlockPlace, BlockUnit, Content, CopyPlace, CopyUnit, Header, HeaderPlace, HeaderUnit, Message, Place, PreparePlace, PrepareUnit, ReplyPlace, ReplyUnit, Units, is_some, or_else, overlay}, Tails.{In}, Shape.{Shape}, View.{View}, Holds.{IsWhole, Sound, Stands}, Next.{MayAppend, appended}, UnitLog.{PutsOne, Synced, UnitLog, add, now, wrote}, Chance.{EachLeft}, Runs.{Puts, Syncs}, WriterLaws.{IsHeaderSector}, WholeLaws.{IsStanding, Spares, StandsLaw, WholeAppendLaw, WholeBlockLaw, WholeReplyLaw, WholeUpdateLaw}}, proofs.{Tails.{chain_ops, in_either, in_single, in_dropped}, Slots.{mod_apart}, Writes.{put_else}}}

module _ (sh : Shape) (image : Units) (v : View) (p : Message) (prepare headers : Units) (sound : Sound sh v) (may : MayAppend sh v (p ∷ [])) (one : PutsOne prepare (PreparePlace (p.header.op % sh.layout.slots)) (PrepareUnit p)) (sector : IsHeaderSector sh image p headers)
    (there : headers (HeaderPlace (p.header.op % sh.layout.slots)) ≡ Some (HeaderUnit p.header)) (whole : IsWhole sh image v) where
  abbrev after : Units
  after = overlay headers (overlay prepare image)

  -- neither write touches it
  untouched : (place : Place) → (o q : Option AnyUnit) → headers place ≡ o
      → prepare place ≡ q → ((y : AnyUnit) → o ≡ Some y → ⊥) → ((y : AnyUnit) → q ≡ Some y → ⊥) → after place ≡ image place
  untouched place None None no_header no_prepare first second = ap (λ (o : Option AnyUnit).
      or_else o (or_else (prepare place) (image place))) no_header ∙ ap (λ (o : Option AnyUnit). or_else o (image place)) no_prepare
  untouched place (Some y) q no_header no_prepare first second = absurd (first y refl)
  untouched place None (Some y) no_header no_prepare first second = absurd (second y refl)

  no_prepare_at : (s : ℕ) (y : AnyUnit) → prepare (HeaderPlace s) ≡ Some y → ⊥
  no_prepare_at s y is = let at = (one.only (HeaderPlace s) y is).0 in cc

  copy_at : (n : ℕ) → n < 4 → after (CopyPlace n) ≡ image (CopyPlace n)
  copy_at n below = untouched (CopyPlace n) (headers (CopyPlace n)) (prepare (CopyPlace n)) refl refl
      (λ y is. let at = (sector.each (CopyPlace n) y is).2 in cc)
      (λ y is. let at = (one.only (CopyPlace n) y is).0 in cc)

  abbrev HasHeader : ℕ → Type 0
  HasHeader s = (h : Header) × (after (HeaderPlace s) ≡ Some (HeaderUnit h))
      × ((q : Message) → In q (appended v (p ∷ [])).tail → s ≡ q.header.op % sh.layout.slots → q.header ≡ h)

  -- the new header stands in no other slot
  not_new : (s : ℕ) (q : Message) → In q v.tail → s ≡ q.header.op % sh.layout.slots → s ≡ p.header.op % sh.layout.slots → ⊥
  not_new s q at mine new = let ops = chain_ops sh.layout.clients
      (v.checkpoint.content.op + 1) v.checkpoint.content.op_checksum 0 v.checkpoint.parts.sessions v.tail q sound.chain at in
      mod_apart sh.layout.slots
      q.header.op p.header.op sh.some (omega (arith, ops.1, may.is.turn.0)) (omega (arith, ops.0, may.is.turn.0, may.room)) (sym mine ∙ new)

  kept_header : (s : ℕ) (h : Header) → after (HeaderPlace s) ≡ Some (HeaderUnit h) → (s ≡ p.header.op % sh.layout.slots → ⊥)
      → ((q : Message) → In q v.tail → s ≡ q.header.op % sh.layout.slots → q.header ≡ h) → HasHeader s
  kept_header s h shown away old = (
    h,
    shown,
    λ q at mine. elim (in_either q v.tail (p ∷ []) at) [
      | inl before ↦ old q before mine
      | inr new ↦ absurd (away (mine ∙ ap (λ (w : Message). w.header.op % sh.layout.slots) (in_single q p new)))
    ],
  )

  new_header : (s : ℕ) → s ≡ p.header.op % sh.layout.slots → HasHeader s
  new_header s here = (
    p.header,
    ap (λ (o : Option AnyUnit). or_else o (overlay prepare image (HeaderPlace s))) (ap (λ (k : ℕ). headers (HeaderPlace k)) here ∙ there),
    λ q at mine. elim (in_either q v.tail (p ∷ []) at) [
      | inl before ↦ absurd (not_new s q before mine here)
      | inr new ↦ ap (λ (w : Message). w.header) (in_single q p new)
    ],
  )

  header_at : (s : ℕ)
      → s < sh.layout.slots → (o : Option AnyUnit) → headers (HeaderPlace s) ≡ o → (s ≡ p.header.op % sh.layout.slots → ⊥) → HasHeader s
  header_at s below None none away = let old = whole.headers s below in kept_header s old.0 (untouched (HeaderPlace s)
      None (prepare (HeaderPlace s)) none refl (λ y is. let both : None ≡ Some y = is in cc) (no_prepare_at s) ∙ old.1) away old.2
  header_at s below (Some y) some away = let old = whole.headers s below in let e = sector.each (HeaderPlace s) y some in
      let slot : e.0 ≡ s = (let at = e.2 in cc) in let shown : after (HeaderPlace s) ≡ Some (HeaderUnit e.1) =
      ap (λ (o : Option AnyUnit). or_else o (overlay prepare image (HeaderPlace s))) some ∙ ap Some e.3 in elim e.4 [
        | inl same ↦ let one_header : old.0 ≡ e.1 = (let both : Some (HeaderUnit old.0) ≡ Some (HeaderUnit e.1) = sym old.1 ∙ ap (λ (k : ℕ).
            image (HeaderPlace k)) (sym slot) ∙ same in cc) in kept_header s e.1 shown away (λ q at mine. old.2 q at mine ∙ one_header)
        | inr new ↦ absurd (away (sym slot ∙ new.0))
      ]

  pub whole_after : IsWhole sh after (appended v (p ∷ []))
  whole_after = record {
    copies = λ n below. copy_at n below ∙ whole.copies n below;
    headers = λ s below. elim (cases_eq s (p.header.op % sh.layout.slots)) [
      | inl here ↦ new_header s here
      | inr away ↦ header_at s below (headers (HeaderPlace s)) refl away
    ];
  }

pub whole_append_law : WholeAppendLaw
whole_append_law sh image v p prepare headers sound may one sector there whole =
    whole_after sh image v p prepare headers sound may one sector there whole

-- ---- the other writers

-- a unit that is no copy and no header
whole_beside :
    (sh : Shape) (image put : Units) (v : View) (place : Place) (x : AnyUnit) → PutsOne put place x → ((n : ℕ) → CopyPlace n ≡ place → ⊥)
    → ((s : ℕ) → HeaderPlace s ≡ place → ⊥) → IsWhole sh image v → IsWhole sh (overlay put image) v
whole_beside sh image put v place x one no_copy no_header whole = record {
  copies = λ n below. put_else put image place (CopyPlace n) x one (no_copy n) ∙ whole.copies n below;
  headers = λ s below. let old = whole.headers s below in (old.0, put_else put image place (HeaderPlace s) x one (no_header s) ∙ old.1, old.2);
}

pub whole_reply_law : WholeReplyLaw
whole_reply_law sh image put v place r one whole =
    let beside = whole_beside sh image put v (ReplyPlace place) (ReplyUnit r) one (λ n same. cc (same)) (λ s same. cc (same)) whole in
    record { copies = beside.copies; headers = beside.headers }

pub whole_block_law : WholeBlockLaw
whole_block_law sh image put v a b one whole =
    whole_beside sh image put v (BlockPlace a) (BlockUnit b) one (λ n same. cc (same)) (λ s same. cc (same)) whole

-- of two numbers of copies the places differ
pub apart : (n k : ℕ) → (n ≡ k → ⊥) → CopyPlace n ≡ CopyPlace k → ⊥
apart n k differ same = differ (let at : CopyPlace n ≡ CopyPlace k = same in cc)

pub copy_over : (put image : Units) (k n : ℕ) (c : Content)
    → PutsOne put (CopyPlace k) (CopyUnit c) → (n ≡ k → ⊥) → overlay put image (CopyPlace n) ≡ image (CopyPlace n)
copy_over put image k n c one differ = put_else put image (CopyPlace k) (CopyPlace n) (CopyUnit c) one (apart n k differ)

pub copy_here : (put image : Units) (k : ℕ) (c : Content)
    → PutsOne put (CopyPlace k) (CopyUnit c) → overlay put image (CopyPlace k) ≡ Some (CopyUnit c)
copy_here put image k c one = ap (λ (o : Option AnyUnit). or_else o (image (CopyPlace k))) one.at

-- a number below 4
abbrev pub IsOneOfFour : ℕ → Type 0
IsOneOfFour n = (n ≡ 0) ⊎ (n ≡ 1) ⊎ (n ≡ 2) ⊎ (n ≡ 3)

pub four : (n : ℕ) → n < 4 → IsOneOfFour n
four n below = elim (cases_eq n 0) [
  | inl is ↦ inl is
  | inr no_zero ↦ elim (cases_eq n 1) [
    | inl is ↦ inr (inl is)
    | inr no_one ↦ elim (cases_eq n 2) [ inl is ↦ inr (inr (inl is)) | inr no_two ↦ inr (inr (inr (omega arith))) ]
  ]
]

pub whole_update_law : WholeUpdateLaw
whole_update_law sh image v c puts whole = let i0 : Units = overlay puts.put0 image in let i1 : Units = overlay puts.put1 i0 in
    let i2 : Units = overlay puts.put2 i1 in let i3 : Units = overlay puts.put3 i2 in record {
      copies = λ n below. elim (four n below) [
        | inl is ↦ rw (sym is) at (copy_over puts.put3 i2 3 0 c.content puts.one3 (λ e. omega arith) ∙ copy_over puts.put2 i1 2 0 c.content puts.one2 (λ e. omega arith) ∙ copy_over puts.put1 i0 1 0 c.content puts.one1 (λ e. omega arith) ∙ copy_here puts.put0 image 0 c.content puts.one0)
        | inr (inl is) ↦ rw (sym is) at (copy_over puts.put3 i2 3 1 c.content puts.one3 (λ e. omega arith)
            ∙ copy_over puts.put2 i1 2 1 c.content puts.one2 (λ e. omega arith) ∙ copy_here puts.put1 i0 1 c.content puts.one1)
        | inr (inr (inl is)) ↦ rw (sym is) at
            (copy_over puts.put3 i2 3 2 c.content puts.one3 (λ e. omega arith) ∙ copy_here puts.put2 i1 2 c.content puts.one2)
        | inr (inr (inr is)) ↦ rw (sym is) at (copy_here puts.put3 i2 3 c.content puts.one3)
      ];
      headers = λ s below. let old = whole.headers s below in (
        old.0,
        away puts.put3 i2 3 puts.one3 s
            ∙ away puts.put2 i1 2 puts.one2 s ∙ away puts.put1 i0 1 puts.one1 s ∙ away puts.put0 image 0 puts.one0 s ∙ old.1,
        λ p at mine. old.2 p (in_dropped (c.content.op - v.checkpoint.content.op) p v.tail at) mine,
      );
    }
  where
    away : (put under : Units) (k : ℕ)
        → PutsOne put (CopyPlace k) (CopyUnit c.content) → (s : ℕ) → overlay put under (HeaderPlace s) ≡ under (HeaderPlace s)
    away put under k one s = put_else put under (CopyPlace k) (HeaderPlace s) (CopyUnit c.content) one (λ same. cc (same))

-- ---- referenced blocks

standing_left : (log : UnitLog) (v : View) → IsStanding log v → EachLeft log (λ image. Stands image v)
standing_left log v standing image left chance a c is = let b = standing.shown a c is in
    (b.0, left (BlockPlace a) (standing.firm a c is) ∙ b.1, b.2, b.3)

standing_wrote : (log : UnitLog) (v : View) (put : Units) → Spares v put → IsStanding log v → IsStanding (wrote put log) v
standing_wrote log v put spares standing = record {
  shown = λ a c is. let b = standing.shown a c is in
      (b.0, ap (λ (o : Option AnyUnit). or_else o (now log (BlockPlace a))) (spares a c is) ∙ b.1, b.2, b.3);
  firm = λ a c is. (λ i. is_some (spares a c is i) || standing.firm a c is i);
}

standing_synced : (log : UnitLog) (v : View) → IsStanding log v → IsStanding (add Synced log) v
standing_synced log v standing = record { shown = standing.shown; firm = λ a c is. refl }

pub stands_law : StandsLaw
stands_law log v [] standing spare = (standing, standing_left log v standing)
stands_law log v ((Puts put) ∷ ss) standing spare =
    ((standing, standing_left log v standing), stands_law (wrote put log) v ss (standing_wrote log v put spare.0 standing) spare.1)
stands_law log v (Syncs ∷ ss) standing spare =
    ((standing, standing_left log v standing), stands_law (add Synced log) v ss (standing_synced log v standing) spare)
