-- What was settled was of a view, and the views just after an append, a reply and a checkpoint.
use Rattle.std.{proofs.{Common.{◌≡◌, ◌⊎◌, inl, inr, ℕ, ◌-◌, ◌<◌, List, [], ◌∷◌, ◌++◌, length, Some, None, refl, sym, ◌∙◌, ap, arith, length-append, length-drop}, lemmas.Bool.{cases_eq}}, specs.List.{slice_get}}
use Rattle.df_theory.{specs.{Units.{AnyUnit, Content, CopyPlace, CopyUnit, Message, ReplyPlace, ReplyUnit, Units}, Sessions.{sessions_after}, Tails.{In}, Shape.{Shape}, View.{View, head}, Next.{Append, Boot, Finish, Next, Reply, Same}, Chance.{InImages}, First.{AreMade}, Grown.{Grows}, Past.{FromEmpty, Was}}, proofs.{Tails.{in_either, in_dropped}, Appends.{kept_some}, Replies.{stored_at, stored_else}, Past.{was_self}}}

-- ---- what was settled in a copy or a reply slot was of a view

pub made_content : (c : Content) (images : List Units)
    → AreMade c images → (n : ℕ) (d : Content) → InImages images (CopyPlace n) (CopyUnit d) → d ≡ c
made_content c [] made n d at = absurd at
made_content c (image ∷ []) made n d (inl here) = absurd (let both : Some (CopyUnit d) ≡ None = sym here ∙ made (CopyPlace n) in cc)
made_content c (image ∷ []) made n d (inr there) = absurd there
made_content c (image ∷ before ∷ images) made n d (inl here) = let is = made.0 (CopyPlace n) (CopyUnit d) here in cc
made_content c (image ∷ before ∷ images) made n d (inr there) = made_content c (before ∷ images) made.2 n d there

pub made_reply : (c : Content) (images : List Units) → AreMade c images → (k : ℕ) (x : AnyUnit) → InImages images (ReplyPlace k) x → ⊥
made_reply c [] made k x at = made
made_reply c (image ∷ []) made k x (inl here) = let both : Some x ≡ None = sym here ∙ made (ReplyPlace k) in cc
made_reply c (image ∷ []) made k x (inr there) = there
made_reply c (image ∷ before ∷ images) made k x (inl here) = made.0 (ReplyPlace k) x here
made_reply c (image ∷ before ∷ images) made k x (inr there) = made_reply c (before ∷ images) made.2 k x there

pub settled_content : (sh : Shape) (images : List Units) (v : View) (grows : Grows sh images v) → FromEmpty sh images v grows → (n : ℕ) (c : Content) → (n ≡ 0 → ⊥) → InImages images (CopyPlace n) (CopyUnit c) → (w : View) × Was sh images v grows w × (c ≡ w.checkpoint.content)
settled_content sh [] v grows empty n c away at = absurd at
settled_content sh (image ∷ []) v (holds, inl begins) empty n c away at = absurd empty
settled_content sh (image ∷ before ∷ images) v (holds, inl begins) empty n c away (inl here) =
    (v, refl, let is = begins.1 (CopyPlace n) (CopyUnit c) here in cc)
settled_content sh (image ∷ before ∷ images) v (holds, inl begins) empty n c away (inr there) =
    (v, refl, made_content v.checkpoint.content (before ∷ images) begins.2 n c there)
settled_content sh (image ∷ images) v (holds, inr (history, (u, next, grows))) empty n c away (inl here) =
    elim (history (CopyPlace n) (CopyUnit c) here) [
      | inl (inl old) ↦ let w = settled_content sh images u grows empty n c away old in (w.0, inr w.1, w.2)
      | inr none ↦ absurd none
      | inl (inr of) ↦ let same : of.0 ≡ c = (let e = of.1 in cc) in elim of.2 [
        | inl base ↦ (v, inl refl, sym same ∙ base)
        | inr first ↦ absurd (away first.0)
      ]
    ]
settled_content sh (image ∷ images) v (holds, inr (history, (u, next, grows))) empty n c away (inr there) =
    let w = settled_content sh images u grows empty n c away there in (w.0, inr w.1, w.2)

abbrev pub WasStored : (sh : Shape) (images : List Units) (v : View) → Grows sh images v → ℕ → Message → Type 0
WasStored sh images v grows k r = (w : View) × Was sh images v grows w × (w.stored k ≡ Some r)

pub settled_reply : (sh : Shape) (images : List Units) (v : View) (grows : Grows sh images v)
    → FromEmpty sh images v grows → (k : ℕ) (r : Message) → InImages images (ReplyPlace k) (ReplyUnit r) → WasStored sh images v grows k r
settled_reply sh [] v grows empty k r at = absurd at
settled_reply sh (image ∷ []) v (holds, inl begins) empty k r at = absurd empty
settled_reply sh (image ∷ before ∷ images) v (holds, inl begins) empty k r (inl here) = absurd (begins.1 (ReplyPlace k) (ReplyUnit r) here)
settled_reply sh (image ∷ before ∷ images) v (holds, inl begins) empty k r (inr there) =
    absurd (made_reply v.checkpoint.content (before ∷ images) begins.2 k (ReplyUnit r) there)
settled_reply sh (image ∷ images) v (holds, inr (history, (u, next, grows))) empty k r (inl here) =
    elim (history (ReplyPlace k) (ReplyUnit r) here) [
      | inl (inl old) ↦ let w = settled_reply sh images u grows empty k r old in (w.0, inr w.1, w.2)
      | inr none ↦ absurd none
      | inl (inr of) ↦ let same : of.0 ≡ r = (let e = of.1 in cc) in (v, inl refl, of.2 ∙ ap Some same)
    ]
settled_reply sh (image ∷ images) v (holds, inr (history, (u, next, grows))) empty k r (inr there) =
    let w = settled_reply sh images u grows empty k r there in (w.0, inr w.1, w.2)

-- ---- the view just after an event

pub append_here : (u v : View) (p : Message) → Next u v → In p v.tail → In p u.tail ⊎ ((head v ≡ p.header.group_last)
    × (v.replies ≡ p.header.mark) × (v.checkpoint.content.sequence ≡ p.header.checkpoint) × (v.checkpoint.content.boot ≡ p.header.boot))
append_here u _ p Same at = inl at
append_here u _ p (Append ps is) at = elim (in_either p u.tail ps at) [
  | inl old ↦ inl old
  | inr new ↦ let stamped = is.stamped p new in
      inr (omega (arith, stamped.group_last, length-append u.tail ps), sym stamped.mark, sym stamped.checkpoint, sym stamped.boot)
]
append_here u _ p (Reply place r is) at = inl at
append_here u _ p (Boot d is) at = inl at
append_here u _ p (Finish c is) at = inl (in_dropped (c.content.op - u.checkpoint.content.op) p u.tail at)

pub after_append : (sh : Shape) (images : List Units) (v : View) (grows : Grows sh images v)
    → FromEmpty sh images v grows → (w : View) (p : Message) → Was sh images v grows w → In p w.tail
    → (b : View) × Was sh images v grows b × (head b ≡ p.header.group_last)
    × (b.replies ≡ p.header.mark) × (b.checkpoint.content.sequence ≡ p.header.checkpoint) × (b.checkpoint.content.boot ≡ p.header.boot)
after_append sh [] v grows empty w p was at = absurd was
after_append sh (image ∷ []) v (holds, inl begins) empty w p is at = absurd empty
after_append sh (image ∷ before ∷ images) v (holds, inl begins) empty w p is at =
    absurd (let none : In p [] = rw (ap (λ (x : View). x.tail) is ∙ begins.0.tail) at at in none)
after_append sh (image ∷ images) v (holds, inr (history, (u, next, grows))) empty w p (inl is) at =
    elim (append_here u v p next.next (rw is at at)) [
      | inl old ↦ let b = after_append sh images u grows empty u p (was_self sh images u grows) old in (b.0, inr b.1, b.2, b.3, b.4, b.5)
      | inr new ↦ (v, inl refl, new.0, new.1, new.2, new.3)
    ]
after_append sh (image ∷ images) v (holds, inr (history, (u, next, grows))) empty w p (inr was) at =
    let b = after_append sh images u grows empty w p was at in (b.0, inr b.1, b.2, b.3, b.4, b.5)

pub reply_here : (u v : View) (k : ℕ) (r : Message) → Next u v → v.stored k ≡ Some r → (u.stored k ≡ Some r) ⊎ ((v.replies ≡ r.header.op) × (head v ≡ r.header.mark) × (v.checkpoint.content.sequence ≡ r.header.checkpoint) × (v.checkpoint.content.boot ≡ r.header.boot) × (u.replies < r.header.op))
reply_here u _ k r Same at = inl at
reply_here u _ k r (Append ps is) at =
    inl (kept_some (slice_get (sessions_after u.checkpoint.parts.sessions (u.tail ++ ps)) k) (head u) (u.stored k) r at)
reply_here u _ k r (Reply place q is) at = elim (cases_eq k place) [
  | inl here ↦ let same : q ≡ r = (let both : Some q ≡ Some r = sym (stored_at k place q (u.stored k) here) ∙ at in cc) in
      inr (sym is.op ∙ ap (λ (w : Message). w.header.op) same, sym is.mark ∙ ap (λ (w : Message). w.header.mark) same, sym is.checkpoint ∙ ap (λ (w : Message). w.header.checkpoint) same, sym is.boot ∙ ap (λ (w : Message). w.header.boot) same, omega (arith, is.op, ap (λ (w : Message). w.header.op) same))
  | inr away ↦ inl (sym (stored_else k place q (u.stored k) away) ∙ at)
]
reply_here u _ k r (Boot d is) at = inl at
reply_here u _ k r (Finish c is) at = inl at

pub after_reply : (sh : Shape) (images : List Units) (v : View) (grows : Grows sh images v)
    → FromEmpty sh images v grows → (w : View) (k : ℕ) (r : Message) → Was sh images v grows w → w.stored k ≡ Some r
    → (b : View) × Was sh images v grows b × (b.replies ≡ r.header.op)
    × (head b ≡ r.header.mark) × (b.checkpoint.content.sequence ≡ r.header.checkpoint) × (b.checkpoint.content.boot ≡ r.header.boot)
after_reply sh [] v grows empty w k r was at = absurd was
after_reply sh (image ∷ []) v (holds, inl begins) empty w k r is at = absurd empty
after_reply sh (image ∷ before ∷ images) v (holds, inl begins) empty w k r is at =
    absurd (let both : None ≡ Some r = sym (begins.0.stored k) ∙ ap (λ (x : View). x.stored k) (sym is) ∙ at in cc)
after_reply sh (image ∷ images) v (holds, inr (history, (u, next, grows))) empty w k r (inl is) at =
    elim (reply_here u v k r next.next (ap (λ (x : View). x.stored k) (sym is) ∙ at)) [
      | inl old ↦ let b = after_reply sh images u grows empty u k r (was_self sh images u grows) old in (b.0, inr b.1, b.2, b.3, b.4, b.5)
      | inr new ↦ (v, inl refl, new.0, new.1, new.2, new.3)
    ]
after_reply sh (image ∷ images) v (holds, inr (history, (u, next, grows))) empty w k r (inr was) at =
    let b = after_reply sh images u grows empty w k r was at in (b.0, inr b.1, b.2, b.3, b.4, b.5)

pub base_here : (u v : View)
    → Next u v → (v.checkpoint ≡ u.checkpoint) ⊎ ((head v ≡ v.checkpoint.content.head) × (v.replies ≡ v.checkpoint.content.replies))
base_here u _ Same = inl refl
base_here u _ (Append q is) = inl refl
base_here u _ (Reply place q is) = inl refl
base_here u _ (Boot d is) = inr (omega (arith, is.head, is.same.op.0), sym is.replies)
base_here u _ (Finish c is) =
    inr (omega (arith, length-drop (c.content.op - u.checkpoint.content.op) u.tail, is.op_from, is.op_to, is.head), sym is.replies)

pub after_base : (sh : Shape) (images : List Units) (v : View) (grows : Grows sh images v)
    → FromEmpty sh images v grows → (w : View) → Was sh images v grows w → (a : View) × Was sh images v grows a
    × (a.checkpoint ≡ w.checkpoint) × (head a ≡ a.checkpoint.content.head) × (a.replies ≡ a.checkpoint.content.replies)
after_base sh [] v grows empty w was = absurd was
after_base sh (image ∷ []) v (holds, inl begins) empty w is = absurd empty
after_base sh (image ∷ before ∷ images) v (holds, inl begins) empty w is =
    (v, refl, ap (λ (x : View). x.checkpoint) (sym is), omega (arith, begins.0.content.numbers, ap length begins.0.tail), omega (arith, begins.0.content.numbers, begins.0.replies))
after_base sh (image ∷ images) v (holds, inr (history, (u, next, grows))) empty w (inl is) = elim (base_here u v next.next) [
  | inl same ↦ let a = after_base sh images u grows empty u (was_self sh images u grows) in
      (a.0, inr a.1, a.2 ∙ sym same ∙ ap (λ (x : View). x.checkpoint) (sym is), a.3, a.4)
  | inr new ↦ (v, inl refl, ap (λ (x : View). x.checkpoint) (sym is), new.0, new.1)
]
after_base sh (image ∷ images) v (holds, inr (history, (u, next, grows))) empty w (inr was) =
    let a = after_base sh images u grows empty w was in (a.0, inr a.1, a.2, a.3, a.4)
