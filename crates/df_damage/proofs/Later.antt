-- What a history's later views keep of an earlier one, and what has more: so each header that was ever settled is of the one tail that its
-- op has.
use Rattle.std.proofs.Common.{◌≡◌, ◌⊎◌, inl, inr, ℕ, ◌<◌, ◌≤◌, List, [], ◌∷◌, Some, None, refl, sym, ◌∙◌, ap, subst, arith}
use Rattle.df_theory.{specs.{Units.{Content, Header, HeaderPlace, HeaderUnit, IsReserved, Message, Units}, Tails.{In}, Shape.{Shape}, View.{View, boot_of, head}, Chance.{InImages}, First.{AreMade}, Grown.{Grows}, Holds.{Sound}, Next.{Next}, Past.{FromEmpty, Was}}, proofs.Laws.{next_grew, next_in, grows_sound}}

-- v is w, or a later view: what it has of prepares is w's, as far as its checkpoint is below them, or was appended since
pub record IsLater (w v : View) : Type 0 where
  pub heads : head w ≤ head v
  pub boots : boot_of w ≤ boot_of v
  pub ops : w.checkpoint.content.op ≤ v.checkpoint.content.op
  pub kept : (p : Message) → In p w.tail → v.checkpoint.content.op < p.header.op → In p v.tail
  pub new : (p : Message) → In p v.tail → In p w.tail ⊎ ((head w < p.header.op) × (boot_of w ≤ p.header.boot))

later_self : (v : View) → IsLater v v
later_self v = record { heads = omega arith; boots = omega arith; ops = omega arith; kept = λ p at above. at; new = λ p at. inl at }

later_next : (sh : Shape) (w u v : View) → Sound sh u → Next u v → IsLater w u → IsLater w v
later_next sh w u v sound next later = let grew = next_grew sh u v sound next in record {
  heads = omega (arith, later.heads, grew.head);
  boots = omega (arith, later.boots, grew.boot);
  ops = omega (arith, later.ops, grew.op);
  kept = λ p at above. grew.tail p (later.kept p at (omega (arith, above, grew.op))) above;
  new = λ p at. elim (next_in u v p next at) [
    | inl old ↦ later.new p old
    | inr is ↦ inr (omega (arith, later.heads, is.above), omega (arith, later.boots, is.boot))
  ];
}

-- so is the newest view, of each that the history had
pub was_later : (sh : Shape) (images : List Units) (v : View) (grows : Grows sh images v) (w : View) → Was sh images v grows w → IsLater w v
was_later sh [] v grows w was = absurd was
was_later sh (image ∷ images) v (holds, inl begins) w is = subst (λ (x : View). IsLater x v) (sym is) (later_self v)
was_later sh (image ∷ images) v (holds, inr (history, (u, next, grows))) w (inl is) = subst (λ (x : View). IsLater x v) (sym is) (later_self v)
was_later sh (image ∷ images) v (holds, inr (history, (u, next, grows))) w (inr was) =
    later_next sh w u v (grows_sound sh images u grows) next.next (was_later sh images u grows w was)

-- of two views one is the later
pub one_later : (sh : Shape) (images : List Units) (v : View) (grows : Grows sh images v) (u w : View)
    → Was sh images v grows u → Was sh images v grows w → IsLater u w ⊎ IsLater w u
one_later sh [] v grows u w one two = absurd one
one_later sh (image ∷ images) v (holds, inl begins) u w one two =
    inl (rw (sym two) at (was_later sh (image ∷ images) v (holds, inl begins) u one))
one_later sh (image ∷ images) v (holds, inr (history, (before, next, grows))) u w (inl one) two =
    inr (rw (sym one) at (was_later sh (image ∷ images) v (holds, inr (history, (before, next, grows))) w two))
one_later sh (image ∷ images) v (holds, inr (history, (before, next, grows))) u w (inr one) (inl two) =
    inl (rw (sym two) at (was_later sh (image ∷ images) v (holds, inr (history, (before, next, grows))) u (inr one)))
one_later sh (image ∷ images) v (holds, inr (history, (before, next, grows))) u w (inr one) (inr two) =
    one_later sh images before grows u w one two

-- ---- headers

-- the header is that of a prepare which a view had
pub record WasHeader (sh : Shape) (images : List Units) (v : View) (grows : Grows sh images v) (h : Header) : Type 0 where
  pub view : View
  pub was : Was sh images v grows view
  pub prepare : Message
  pub in_tail : In prepare view.tail
  pub own : prepare.header ≡ h

made_header : (c : Content) (images : List Units)
    → AreMade c images → (s : ℕ) (h : Header) → InImages images (HeaderPlace s) (HeaderUnit h) → h.op ≡ 0
made_header c [] made s h at = absurd made
made_header c (image ∷ []) made s h (inl here) = absurd (let both : Some (HeaderUnit h) ≡ None = sym here ∙ made (HeaderPlace s) in cc)
made_header c (image ∷ []) made s h (inr there) = absurd there
made_header c (image ∷ before ∷ images) made s h (inl here) = first_header (made.0 (HeaderPlace s) (HeaderUnit h) here)
  where
    first_header : ((g : Header) × (HeaderUnit h ≡ HeaderUnit g) × IsReserved g) → h.op ≡ 0
    first_header is = let same : is.0 ≡ h = (let e = is.1 in cc) in ap (λ (g : Header). g.op) (sym same) ∙ is.2.op
made_header c (image ∷ before ∷ images) made s h (inr there) = made_header c (before ∷ images) made.2 s h there

-- each header that was settled is a reserved one, or that of such a prepare
pub settled_header : (sh : Shape) (images : List Units) (v : View) (grows : Grows sh images v) → FromEmpty sh images v grows
    → (s : ℕ) (h : Header) → InImages images (HeaderPlace s) (HeaderUnit h) → (h.op ≡ 0) ⊎ WasHeader sh images v grows h
settled_header sh [] v grows empty s h at = absurd at
settled_header sh (image ∷ []) v (holds, inl begins) empty s h at = absurd empty
settled_header sh (image ∷ before ∷ images) v (holds, inl begins) empty s h (inl here) = inl (let is = begins.1 (HeaderPlace
    s) (HeaderUnit h) here in let same : is.0 ≡ h = (let e = is.1 in cc) in ap (λ (g : Header). g.op) (sym same) ∙ is.2.op)
settled_header sh (image ∷ before ∷ images) v (holds, inl begins) empty s h (inr old) =
    inl (made_header v.checkpoint.content (before ∷ images) begins.2 s h old)
settled_header sh (image ∷ images) v (holds, inr (history, (u, next, grows))) empty s h (inl here) =
    elim (history (HeaderPlace s) (HeaderUnit h) here) [
      | inl (inl old) ↦ before (settled_header sh images u grows empty s h old)
      | inl (inr new) ↦ let same : new.0 ≡ h = (let e = new.1 in cc) in elim new.2 [
        | inl reserved ↦ inl (ap (λ (g : Header). g.op) (sym same) ∙ reserved)
        | inr in_tail ↦ inr (record { view = v; was = inl refl; prepare = in_tail.0; in_tail = in_tail.1; own = in_tail.2 ∙ same })
      ]
      | inr survivor ↦ absurd survivor
    ]
  where
    before : (h.op ≡ 0) ⊎ WasHeader sh images u grows h
        → (h.op ≡ 0) ⊎ WasHeader sh (image ∷ images) v (holds, inr (history, (u, next, grows))) h
    before (inl reserved) = inl reserved
    before (inr had) = inr (record { view = had.view; was = inr had.was; prepare = had.prepare; in_tail = had.in_tail; own = had.own })
settled_header sh (image ∷ images) v (holds, inr (history, (u, next, grows))) empty s h (inr old) =
    elim (settled_header sh images u grows empty s h old) [
      | inl reserved ↦ inl reserved
      | inr had ↦ inr (record { view = had.view; was = inr had.was; prepare = had.prepare; in_tail = had.in_tail; own = had.own })
    ]
