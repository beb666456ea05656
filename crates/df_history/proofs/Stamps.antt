-- One reply an op, in the awake views of one boot, and three counters of one boot that stood together.
use Rattle.std.proofs.Common.{◌≡◌, inl, inr, ℕ, ◌≤◌, List, [], ◌∷◌, Some, refl, sym, ◌∙◌, ap, arith}
use Rattle.df_theory.{specs.{Units.{Message, Units}, Shape.{Shape}, Copies.{rank_of}, View.{View, boot_of, head}, Holds.{Sound}}, proofs.Laws.{reply_here, one_stored, stored_op, next_grew}}
use Rattle.df_history.{specs.Lives.{Awake, Lived, Lives, Steps, Turn}, proofs.Steps.{awake_low, lived_low, lived_self, lived_sound, lives_sound, step_same}}

stored_one : (sh : Shape) (v a b : View) (k j : ℕ) (r q : Message)
    → Sound sh v → a ≡ v → b ≡ v → a.stored k ≡ Some r → b.stored j ≡ Some q → r.header.op ≡ q.header.op → r ≡ q
stored_one sh v a b k j r q sound is_a is_b at_a at_b same =
    one_stored sh v sound k j r q (ap (λ (x : View). x.stored k) (sym is_a) ∙ at_a) (ap (λ (x : View). x.stored j) (sym is_b) ∙ at_b) same

-- the newest view, and an older one of its boot
stored_newest : (sh : Shape) (images : List Units) (image : Units) (u v : View) (s t : Turn) → Steps images image u s v t → (lives : Lives sh images u s) → (a b : View) (k j : ℕ) (r q : Message) → (a ≡ v) × (Awake ≡ t) → Lived sh images u s lives b Awake → boot_of a ≡ boot_of b
    → a.stored k ≡ Some r → b.stored j ≡ Some q
    → r.header.op ≡ q.header.op → (Lived sh images u s lives u Awake → boot_of u ≡ boot_of b → u.stored k ≡ Some r → r ≡ q) → r ≡ q
stored_newest sh images image u v s t step lives a b k j r q is_a lived_b boots at_a at_b same more =
    let older = lived_low sh images u s lives b Awake lived_b in
    let goes = step_same images image u s v t step (sym is_a.1) (omega (arith, older.1, boots, ap boot_of is_a.0)) in
    let grew = next_grew sh u v (lives_sound sh images u s lives) goes.1.next in
    let boot : boot_of u ≡ boot_of b = omega (arith, older.1, boots, ap boot_of is_a.0, grew.boot) in
    elim (reply_here u v k r goes.1.next (ap (λ (x : View). x.stored k) (sym is_a.0) ∙ at_a)) [
      | inl old ↦ more (rw (← goes.0) (lived_self sh images u s lives)) boot old
      | inr new ↦ absurd (omega (arith, new.4, stored_op sh b (lived_sound sh images u s lives b Awake lived_b) j q at_b, awake_low sh images u s lives goes.0 b Awake lived_b (sym boot)))
    ]

-- the awake views of one boot have one reply an op
pub one_of_stored : (sh : Shape) (images : List Units) (v : View) (t : Turn) (lives : Lives sh images v t)
    (a b : View) (k j : ℕ) (r q : Message) → Lived sh images v t lives a Awake → Lived sh images v t lives b Awake → boot_of a ≡ boot_of b
    → a.stored k ≡ Some r → b.stored j ≡ Some q → r.header.op ≡ q.header.op → r ≡ q
one_of_stored sh [] v t lives a b k j r q lived_a lived_b boots at_a at_b same = absurd lived_a
one_of_stored sh (image ∷ images) v t (holds, inl starts) a b k j r q is_a is_b boots at_a at_b same =
    stored_one sh v a b k j r q holds.bears.sound is_a.0 is_b.0 at_a at_b same
one_of_stored sh (image ∷ images) v t (holds, inr (u, s, step, lives)) a b k j r q (inl is_a) (inl is_b) boots at_a at_b same =
    stored_one sh v a b k j r q holds.bears.sound is_a.0 is_b.0 at_a at_b same
one_of_stored sh (image ∷ images) v t (holds, inr (u, s, step, lives)) a b k j r q (inl is_a) (inr lived_b) boots at_a at_b same =
    stored_newest sh images image u v s t step lives a b k j r q is_a lived_b boots at_a at_b same (λ lived boot old.
    one_of_stored sh images u s lives u b k j r q lived lived_b boot old at_b same)
one_of_stored sh (image ∷ images) v t (holds, inr (u, s, step, lives)) a b k j r q (inr lived_a) (inl is_b) boots at_a at_b same =
    sym (stored_newest sh images image u v s t step lives b a j k q r is_b lived_a (sym boots) at_b at_a (sym same) (λ lived boot old.
    sym (one_of_stored sh images u s lives a u k j r q lived_a lived (sym boot) at_a old same)))
one_of_stored sh (image ∷ images) v t (holds, inr (u, s, step, lives)) a b k j r q (inr lived_a) (inr lived_b) boots at_a at_b same =
    one_of_stored sh images u s lives a b k j r q lived_a lived_b boots at_a at_b same

-- ---- three awake views of one boot, of which each has one of the three counters and none has more of the others: one awake view has all
-- three
abbrev pub HasAll : (sh : Shape) (images : List Units) (v : View) (t : Turn) → Lives sh images v t → ℕ → ℕ → ℕ → Type 0
HasAll sh images v t lives s top replies =
    (w : View) × Lived sh images v t lives w Awake × (rank_of w.checkpoint.content ≡ s) × (head w ≡ top) × (w.replies ≡ replies)

pub stamps : (sh : Shape) (images : List Units) (v : View) (t : Turn) (lives : Lives sh images v t) (s top replies boot : ℕ) (a b c : View)
    → Lived sh images v t lives a Awake → (rank_of a.checkpoint.content ≡ s) × (head a ≤ top) × (a.replies ≤ replies) × (boot_of a ≡ boot)
    → Lived sh images v t lives b Awake → (rank_of b.checkpoint.content ≤ s) × (head b ≡ top) × (b.replies ≤ replies) × (boot_of b ≡ boot)
    → Lived sh images v t lives c Awake → (rank_of c.checkpoint.content ≤ s) × (head c ≤ top) × (c.replies ≡ replies) × (boot_of c ≡ boot)
    → HasAll sh images v t lives s top replies
stamps sh [] v t lives s top replies boot a b c lived_a at_a lived_b at_b lived_c at_c = absurd lived_a
stamps sh (image ∷ images) v t (holds, inl starts) s top replies boot a b c is_a at_a is_b at_b is_c at_c =
    (v, (refl, is_a.1), omega (arith, at_a.0, ap (λ (x : View). rank_of x.checkpoint.content) is_a.0), omega (arith, at_b.1, ap head is_b.0), omega (arith, at_c.2, ap (λ (x : View). x.replies) is_c.0))
stamps sh (image
    ∷ images) v t (holds, inr (u, turn, step, lives)) s top replies boot a b c (inr lived_a) at_a (inr lived_b) at_b (inr lived_c) at_c =
    let w = stamps sh images u turn lives s top replies boot a b c lived_a at_a lived_b at_b lived_c at_c in (w.0, inr w.1, w.2, w.3, w.4)
stamps sh (image ∷ images) v t (holds, inr (u, turn, step, lives)) s top replies boot a b c (inl is) at_a lived_b at_b lived_c at_c =
    let low_b = awake_low sh
    (image ∷ images) v t (holds, inr (u, turn, step, lives)) (sym is.1) b Awake lived_b (omega (arith, at_a.3, at_b.3, ap boot_of is.0)) in
    let low_c = awake_low sh
    (image ∷ images) v t (holds, inr (u, turn, step, lives)) (sym is.1) c Awake lived_c (omega (arith, at_a.3, at_c.3, ap boot_of is.0)) in
    (v, inl (refl, is.1), omega (arith, at_a.0, ap (λ (x : View). rank_of x.checkpoint.content) is.0), omega (arith, at_a.1, ap head is.0, at_b.1, low_b.0), omega (arith, at_a.2, ap (λ (x : View). x.replies) is.0, at_c.2, low_c.1))
stamps sh (image ∷ images) v t (holds, inr (u, turn, step, lives)) s top replies boot a b c (inr lived_a) at_a (inl is) at_b lived_c at_c =
    let low_a = lived_low sh (image ∷ images) v t (holds, inr (u, turn, step, lives)) a Awake (inr lived_a) in let low_c = awake_low sh
    (image ∷ images) v t (holds, inr (u, turn, step, lives)) (sym is.1) c Awake lived_c (omega (arith, at_b.3, at_c.3, ap boot_of is.0)) in
    (v, inl (refl, is.1), omega (arith, at_b.0, ap (λ (x : View). rank_of x.checkpoint.content) is.0, at_a.0, low_a.0), omega (arith, at_b.1, ap head is.0), omega (arith, at_b.2, ap (λ (x : View). x.replies) is.0, at_c.2, low_c.1))
stamps sh (image ∷ images) v t (holds, inr (u, turn, step, lives)) s top replies boot a b c (inr lived_a) at_a (inr lived_b) at_b (inl is) at_c =
    let low_a = lived_low sh (image ∷ images) v t (holds, inr (u, turn, step, lives)) a Awake (inr lived_a) in
    let low_b = awake_low sh (image
    ∷ images) v t (holds, inr (u, turn, step, lives)) (sym is.1) b Awake (inr lived_b) (omega (arith, at_c.3, at_b.3, ap boot_of is.0)) in
    (v, inl (refl, is.1), omega (arith, at_c.0, ap (λ (x : View). rank_of x.checkpoint.content) is.0, at_a.0, low_a.0), omega (arith, at_c.1, ap head is.0, at_b.1, low_b.0), omega (arith, at_c.2, ap (λ (x : View). x.replies) is.0))
