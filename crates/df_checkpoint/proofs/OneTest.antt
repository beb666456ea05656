-- What is shown of a trailer fails one test first: it has one chain and one text, and a test is made once those before it passed.
use Rattle.std.{proofs.{Common.{◌≡◌, ℕ, ◌+◌, ◌-◌, ◌^◌, ◌<◌, ◌≤◌, false, Some, None, List, [], ◌∷◌, length, refl, sym, ap, ◌∙◌, arith, inl, inr}, lemmas.Bool.{cases_order}, lemmas.Option.{same_Some}}, specs.Prelude.{Ok}}
use Rattle.{df_layout.specs.declared.fields.Field.{Field}, df_model.{specs.{Supply.{Shown}, Work.{is_known}}, proofs.Laws.{count_le}}}
use Rattle.df_theory.specs.{Units.{Block, Content, Parts}, Sessions.{Has}, Shape.{Shape}, Trailer.{InChain, text_of}, Opens.{AreLinks, Arrives, IsLink}}
use Rattle.df_trailer.specs.{declared.fault.Fault.{Fault}, Text.{fault, parse_of}}
use Rattle.df_checkpoint.{specs.{Chain.{IsBroken, asked}, Reads.{IsBadText, IsReferenced, IsWholeChain}, Waiting.{IsUntracked}, Laws.{OneTestFails}}, proofs.{OneLink.{asked_is}, Missed.{not_passed, one_block}, Unreadable.{link_there, same_chain, unparsed}}}

-- two faults that are told as one are one
one_fault : (f g : Fault) → Some f ≡ Some g → (f.field ≡ g.field) × (f.value ≡ g.value)
one_fault f g is = let same = same_Some f g is in (ap (λ (x : Fault). x.field) same, ap (λ (x : Fault). x.value) same)

-- ---- a link

-- two walks that a block breaks off end at one address
one_break : (sh : Shape) (shown : Shown) (c : Content) (n i j : ℕ) (vs ws : List (ℕ × Block)) (address sum a k e d : ℕ) (x y : Block)
    → Arrives shown.units vs address sum a k → Arrives shown.units ws address sum e d → n ≡ length vs + (i + 1) → n ≡ length ws + (j + 1)
    → AreLinks sh c n vs
    → AreLinks sh c n ws → asked shown a k ≡ Ok x → asked shown e d ≡ Ok y → (IsLink sh c i x → ⊥) → (IsLink sh c j y → ⊥) → a ≡ e
one_break sh shown c n i j [] [] address sum a k e d x y one two first second left right is there broken unlinked = one.0 ∙ sym two.0
one_break sh shown c n i j [] (w ∷ ws) address sum a k e d x y one two first second left right is there broken unlinked =
    absurd (not_passed sh shown c n i w ws address sum a k e d x one.0 two (omega (arith, first)) right is broken)
one_break sh shown c n i j (v ∷ vs) [] address sum a k e d x y one two first second left right is there broken unlinked =
    absurd (not_passed sh shown c n j v vs address sum e d a k y two.0 one (omega (arith, second)) left there unlinked)
one_break sh shown c n i j (v ∷ vs) (w ∷ ws) address sum a k e d x y one two first second left right is there broken unlinked =
    let same : w.1 ≡ v.1 = one_block shown.units address address w.1 v.1 refl two.3 one.3 in
    let count : right.0 ≡ left.0 = omega (arith, left.1, right.1) in one_break sh shown c left.0 i j
    vs ws v.1.before v.1.before_checksum a k e d x y one.5 (rw same at two.5) (omega (arith, first, left.1)) (omega (arith, second, left.1))
    left.3 (rw count at right.3) is there broken unlinked

module _ (sh : Shape) (shown : Shown) (c : Content) where
  breaks_once : (a e : ℕ) → IsBroken sh shown c a → IsBroken sh shown c e → a ≡ e
  breaks_once a e one two = let room : ℕ = sh.layout.block_size - 256 in
      let most = count_le room c.trailer_size one.reads.count two.reads.count one.reads.counts two.reads.counts in
      let least = count_le room c.trailer_size two.reads.count one.reads.count two.reads.counts one.reads.counts in
      let same : two.reads.count ≡ one.reads.count = omega (arith, most, least) in
      one_break sh shown c one.reads.count one.index two.index one.reads.read two.reads.read
      c.trailer c.trailer_checksum a one.sum e two.sum one.block two.block one.reads.arrives two.reads.arrives one.at (sym same ∙ two.at)
      one.reads.links (rw same at two.reads.links) one.is two.is one.broken two.broken

  -- no block breaks a whole chain
  unbroken : (a : ℕ) (chain : List (ℕ × Block)) → IsWholeChain sh shown c chain → IsBroken sh shown c a → ⊥
  unbroken a chain whole bad = let room : ℕ = sh.layout.block_size - 256 in
      let most = count_le room c.trailer_size bad.reads.count (length chain) bad.reads.counts whole.count in
      let least = count_le room c.trailer_size (length chain) bad.reads.count whole.count bad.reads.counts in
      bad.broken (link_there
      sh shown.units c bad.reads.count bad.index bad.reads.read chain c.trailer c.trailer_checksum a bad.sum bad.block bad.reads.arrives
      bad.at (omega (arith, most, least)) whole.links whole.inside whole.shows (asked_is shown a bad.sum bad.block bad.is).shows)

  -- ---- the text

  one_chain : (xs ys : List (ℕ × Block)) → IsWholeChain sh shown c xs → IsWholeChain sh shown c ys → xs ≡ ys
  one_chain xs ys one two =
      same_chain (sh.layout.block_size - 256) shown.units c xs ys c.trailer c.trailer_checksum one.links two.links one.shows two.shows

  text_fails_once : (field other : Field) (value number : ℕ)
      → IsBadText sh shown c field value → IsBadText sh shown c other number → (field ≡ other) × (value ≡ number)
  text_fails_once field other value number one two = let chains = one_chain one.chain two.chain one.whole two.whole in
      one_fault (record { field = field; value = value }) (record { field = other; value = number })
      (sym one.fails ∙ ap (λ (l : List (ℕ × Block)). fault sh.layout c.op (text_of l)) chains ∙ two.fails)

  -- two texts that are parsed are one
  one_text : (xs ys : List (ℕ × Block)) (p q : Parts) → IsWholeChain sh shown c xs
      → IsWholeChain sh shown c ys → sh.parse c.op (text_of xs) ≡ Some p → sh.parse c.op (text_of ys) ≡ Some q → (xs ≡ ys) × (p ≡ q)
  one_text xs ys p q one two first second = let chains = one_chain xs ys one two in
      (chains, same_Some p q (sym first ∙ ap (λ (l : List (ℕ × Block)). sh.parse c.op (text_of l)) chains ∙ second))

  text_fails : (field : Field) (value : ℕ) (chain : List (ℕ × Block)) (parts : Parts) → sh.parse ≡ parse_of sh.layout
      → c.op ≤ 2 ^ 62 → IsBadText sh shown c field value → IsWholeChain sh shown c chain → sh.parse c.op (text_of chain) ≡ Some parts → ⊥
  text_fails field value chain parts parse most bad whole says =
      let none = unparsed sh c.op (text_of bad.chain) (record { field = field; value = value }) parse most bad.fails in
      let said : sh.parse c.op (text_of bad.chain) ≡ Some parts =
      ap (λ (l : List (ℕ × Block)). sh.parse c.op (text_of l)) (one_chain bad.chain chain bad.whole whole) ∙ says in cc

  -- ---- what it references, and the ops that wait

  referenced_lower : (a e : ℕ) → a < e → IsReferenced sh shown c a → IsReferenced sh shown c e → ⊥
  referenced_lower a e less one two = let same = one_text one.chain two.chain one.parts two.parts one.whole two.whole one.says two.says in
      let none : two.parts.references a ≡ None = two.least a one.block (rw same.0 at one.chained) less in let known = one.known in
      let no : is_known (one.parts.references a) ≡ false = ap (λ (p : Parts). is_known (p.references a)) same.1 ∙ ap is_known none in cc

  untracked_lower : (n m : ℕ) → n < m → IsUntracked sh shown c n → IsUntracked sh shown c m → ⊥
  untracked_lower n m less one two = let same = one_text one.chain two.chain one.parts two.parts one.whole two.whole one.says two.says in
      one.lacks (rw (sym same.1) at (two.least n one.above less))

  -- the addresses are tested before the ops
  spared : (a n : ℕ) → IsReferenced sh shown c a → IsUntracked sh shown c n → ⊥
  spared a n one two = let same = one_text one.chain two.chain one.parts two.parts one.whole two.whole one.says two.says in
      let none : two.parts.references a ≡ None = two.spare a one.block (rw same.0 at one.chained) in let known = one.known in
      let no : is_known (one.parts.references a) ≡ false = ap (λ (p : Parts). is_known (p.references a)) same.1 ∙ ap is_known none in cc

  one_address : (a e : ℕ) → IsReferenced sh shown c a → IsReferenced sh shown c e → a ≡ e
  one_address a e one two = elim (cases_order a e) [ inl same ↦ same | inr (inl less) ↦ absurd (referenced_lower a e less one two) | inr (inr more) ↦ absurd (referenced_lower e a more two one) ]

  one_op : (n m : ℕ) → IsUntracked sh shown c n → IsUntracked sh shown c m → n ≡ m
  one_op n m one two = elim (cases_order n m) [ inl same ↦ same | inr (inl less) ↦ absurd (untracked_lower n m less one two) | inr (inr more) ↦ absurd (untracked_lower m n more two one) ]

-- ---- the tests

pub one_test : OneTestFails
one_test sh shown c field other value number parse most (inl one) (inl two) =
    (one.0 ∙ sym two.0, breaks_once sh shown c value number one.1 two.1)
one_test sh shown c field other value number parse most (inl one) (inr (inl two)) = absurd (unbroken sh shown c value two.chain two.whole one.1)
one_test sh shown c field other value number parse most (inl one) (inr (inr (inl two))) =
    absurd (unbroken sh shown c value two.1.chain two.1.whole one.1)
one_test sh shown c field other value number parse most (inl one) (inr (inr (inr two))) =
    absurd (unbroken sh shown c value two.1.chain two.1.whole one.1)
one_test sh shown c field other value number parse most (inr (inl one)) (inl two) = absurd (unbroken sh shown c number one.chain one.whole two.1)
one_test sh shown c field other value number parse most (inr (inl one)) (inr (inl two)) =
    text_fails_once sh shown c field other value number one two
one_test sh shown c field other value number parse most (inr (inl one)) (inr (inr (inl two))) =
    absurd (text_fails sh shown c field value two.1.chain two.1.parts parse most one two.1.whole two.1.says)
one_test sh shown c field other value number parse most (inr (inl one)) (inr (inr (inr two))) =
    absurd (text_fails sh shown c field value two.1.chain two.1.parts parse most one two.1.whole two.1.says)
one_test sh shown c field other value number parse most (inr (inr (inl one))) (inl two) =
    absurd (unbroken sh shown c number one.1.chain one.1.whole two.1)
one_test sh shown c field other value number parse most (inr (inr (inl one))) (inr (inl two)) =
    absurd (text_fails sh shown c other number one.1.chain one.1.parts parse most two one.1.whole one.1.says)
one_test sh shown c field other value number parse most (inr (inr (inl one))) (inr (inr (inl two))) =
    (one.0 ∙ sym two.0, one_address sh shown c value number one.1 two.1)
one_test sh shown c field other value number parse most (inr (inr (inl one))) (inr (inr (inr two))) =
    absurd (spared sh shown c value number one.1 two.1)
one_test sh shown c field other value number parse most (inr (inr (inr one))) (inl two) =
    absurd (unbroken sh shown c number one.1.chain one.1.whole two.1)
one_test sh shown c field other value number parse most (inr (inr (inr one))) (inr (inl two)) =
    absurd (text_fails sh shown c other number one.1.chain one.1.parts parse most two one.1.whole one.1.says)
one_test sh shown c field other value number parse most (inr (inr (inr one))) (inr (inr (inl two))) =
    absurd (spared sh shown c number value two.1 one.1)
one_test sh shown c field other value number parse most (inr (inr (inr one))) (inr (inr (inr two))) =
    (one.0 ∙ sym two.0, one_op sh shown c value number one.1 two.1)
