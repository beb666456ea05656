-- What was ever settled above the head makes up no whole group.
use Rattle.std.proofs.Common.{◌≡◌, ◌⊎◌, inl, inr, ℕ, ◌+◌, ◌%◌, ◌<◌, ◌≤◌, List, [], ◌∷◌, length, refl, ◌∙◌, ap, arith}
use Rattle.df_theory.{specs.{Units.{Content, Message, PreparePlace, PrepareUnit, Units}, Sessions.{sessions_after}, Tails.{In, last_checksum, last_mark}, Shape.{Shape}, View.{Checkpoint, View, boot_of, head}, Groups.{AreMore, ShowsOwn}, Holds.{Holds}, Chance.{InImages}, Grown.{AllInHistory, Grows, IsClear}}, proofs.{Tails.{chain_ops}, Steps.{grows_sound, old_agrees}, Grew.{Grew, next_grew}, Past.{no_made}}}

-- the prepare was settled at its slot, and is of this boot
pub record WasOwn (n : ℕ) (images : List Units) (c : Content) (p : Message) : Type 0 where
  pub settled : InImages images (PreparePlace (p.header.op % n)) (PrepareUnit p)
  pub own : p.header.boot ≡ c.boot

pub more_by : (sh : Shape) (P Q : Message → Type 0) (b : Checkpoint) (tail ps : List Message)
    → ((p : Message) → In p ps → P p → Q p) → AreMore sh P b tail ps → AreMore sh Q b tail ps
more_by sh P Q b tail ps implies more = record {
  behind = record { room = more.behind.room; shown = λ p at. implies p at (more.behind.shown p at); chain = more.behind.chain; grouped = more.behind.grouped };
  some = more.some;
  ends = more.ends;
}

more_above : (sh : Shape) (P : Message → Type 0) (v : View) (ps : List Message) (p : Message)
    → AreMore sh P v.checkpoint v.tail ps → In p ps → head v < p.header.op
more_above sh P v ps p more at =
    let ops = chain_ops sh.layout.clients (v.checkpoint.content.op + 1 + length v.tail) (last_checksum v.checkpoint.content.op_checksum
    v.tail) (last_mark 0 v.tail) (sessions_after v.checkpoint.parts.sessions v.tail) ps p more.behind.chain at in omega (arith, ops.0)

-- either all of them are shown now, or all were settled before
split_more : (image : Units) (images : List Units) (v : View) (n : ℕ) (c : Content) → c.boot ≡ boot_of v → AllInHistory images image v
    → (qs : List Message) → ((p : Message) → In p qs → head v < p.header.op) → ((p : Message) → In p v.tail → p.header.op ≤ head v)
    → ((p : Message) → In p qs → WasOwn n (image ∷ images) c p) → ((p : Message) → In p qs → WasOwn n images c p) ⊎ IsClear images v
split_more image images v n c boot history [] above low all = inl (λ p none. absurd none)
split_more image images v n c boot history (q ∷ qs) above low all =
    elim (split_more image images v n c boot history qs (λ p at. above p (inr at)) low (λ p at. all p (inr at))) [
      | inr clear ↦ inr clear
      | inl rest ↦ elim (all q (inl refl)).settled [
        | inr old ↦ inl (λ p at. elim at [ inl is ↦ rw is (record { settled = old; own = (all q (inl refl)).own }) | inr there ↦ rest p there ])
        | inl here ↦ elim (history (PreparePlace (q.header.op % n)) (PrepareUnit q) here) [
          | inl (inl old) ↦
              inl (λ p at. elim at [ inl is ↦ rw is (record { settled = old; own = (all q (inl refl)).own }) | inr there ↦ rest p there ])
          | inl (inr new) ↦ let same : new.0 ≡ q = (let e = new.1 in cc) in absurd (omega (arith, low q (rw same at new.2), above q (inl refl)))
          | inr survivor ↦ inr survivor.2.clear
        ]
      ]
    ]

-- where nothing was settled before, all is shown now
now_more : (sh : Shape) (image : Units) (images : List Units) (v : View) (ps : List Message) → Holds sh image v
    → ((s : ℕ) (p : Message) → InImages images (PreparePlace s) (PrepareUnit p) → p.header.boot ≡ boot_of v → head v < p.header.op → ⊥)
    → AreMore sh (WasOwn sh.layout.slots (image ∷ images) v.checkpoint.content) v.checkpoint v.tail ps → ⊥
now_more sh image images v ps holds none more =
    holds.short ps (more_by sh _ (ShowsOwn sh.layout.slots image v.checkpoint.content) v.checkpoint v.tail ps (λ p at was. record {
      shown = elim was.settled [
        | inl here ↦ here
        | inr old ↦ absurd (none (p.header.op % sh.layout.slots)
            p old was.own (more_above sh (WasOwn sh.layout.slots (image ∷ images) v.checkpoint.content) v ps p more at))
      ];
      own = was.own;
    }) more)

pub pool_short : (sh : Shape) (images : List Units) (v : View)
    → Grows sh images v → (ps : List Message) → AreMore sh (WasOwn sh.layout.slots images v.checkpoint.content) v.checkpoint v.tail ps → ⊥
pool_short sh [] v grows ps more = grows
pool_short sh (image ∷ []) v (holds, inl begins) ps more = now_more sh image [] v ps holds (λ s p none own above. none) more
pool_short sh (image ∷ before ∷ images) v (holds, inl begins) ps more = now_more sh image (before ∷ images) v ps holds (λ s p old own above.
    no_made v.checkpoint.content (before ∷ images) begins.2 s (PrepareUnit p) old) more
pool_short sh (image ∷ images) v (holds, inr (history, (u, goes, grows))) ps more = elim goes.clear [
  | inl same ↦ elim (split_more image images v sh.layout.slots v.checkpoint.content refl history ps (λ p at.
      more_above sh (WasOwn sh.layout.slots (image ∷ images) v.checkpoint.content) v ps p more at) tail_low more.behind.shown) [
        | inl old ↦ pool_short sh images u grows ps (rw same.0 at (rw same.1 at
            (more_by sh _ (WasOwn sh.layout.slots images v.checkpoint.content) v.checkpoint v.tail ps (λ p at was. old p at) more)))
        | inr clear ↦ now_more sh image images v ps holds (λ s p old own above. omega (arith, clear s p old own)) more
      ]
  | inr (inl raised) ↦ now_more sh image images v ps holds (λ s p old own above.
      let a = old_agrees sh images u grows (PreparePlace s) (PrepareUnit p) old in let same : a.0 ≡ p = (let e = a.1 in cc) in
      omega (arith, a.2.boot, ap (λ (w : Message). w.header.boot) same)) more
  | inr (inr clear) ↦ now_more sh image images v ps holds (λ s p old own above.
      omega (arith, clear s p old (own ∙ boot_same s p old own), grew_head)) more
]
  where
    tail_low : (p : Message) → In p v.tail → p.header.op ≤ head v
    tail_low p at = let ops = chain_ops sh.layout.clients
        (v.checkpoint.content.op + 1) v.checkpoint.content.op_checksum 0 v.checkpoint.parts.sessions v.tail p holds.bears.sound.chain at in
        omega (arith, ops.1)

    grew : Grew u v
    grew = next_grew sh u v (grows_sound sh images u grows) goes.next

    grew_head : head u ≤ head v
    grew_head = grew.head

    -- what was settled before has no later boot
    boot_same : (s : ℕ) (p : Message) → InImages images (PreparePlace s) (PrepareUnit p) → p.header.boot ≡ boot_of v → boot_of v ≡ boot_of u
    boot_same s p old own = let a = old_agrees sh images u grows (PreparePlace s) (PrepareUnit p) old in
        let same : a.0 ≡ p = (let e = a.1 in cc) in omega (arith, a.2.boot, ap (λ (w : Message). w.header.boot) same, grew.boot)
