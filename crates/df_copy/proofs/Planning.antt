-- What the tests that read nothing say: none holds, or the first that does.
use Rattle.std.{proofs.{Common.{◌≡◌, ℕ, suc, ◌+◌, ◌-◌, ◌<◌, ◌≤◌, ◌==◌, Bool, true, false, not, if◌then◌else◌, List, [], ◌∷◌, ◌++◌, length, Option, Some, None, refl, sym, ◌∙◌, ap, subst, arith}, lemmas.{Bool.{eq-eqb, ltb-false, ne_eqb, not-false}, List.{length-map}, Option.{none-some, same_Some}}}, specs.Prelude.{nat_lt}}
use Rattle.{df_base.specs.Causes.{Blamed}, df_layout.specs.declared.layout.Layout.{Layout}, df_sessions.specs.Requests.{session_of}}
use Rattle.{df_trailer.specs.Spelling.{text_size}, df_units.specs.Meaning.{layout_of}, df_opening.specs.Below.{State, memory}}
use Rattle.df_model.specs.{Blocks.{entry, sum_at}, Memory.{Memory}, Refusals.{first_refusal}}
use Rattle.df_copy.specs.{declared.ending.Ending.{Ending}, declared.ending.Ending.TheVariants.{NotAtRest, TooFewBlocks, TooFewClients}, Statuses.{is_source, is_target}, Tests.{is_at_rest, needed, references, references_from, rest_tests, trailer_size}}

-- ---- the tests that read nothing

passes_first : (b : Bool) (e : Ending) (rest : List (Bool × Ending))
    → first_refusal ((b, e) ∷ rest) ≡ None → (b ≡ false) × (first_refusal rest ≡ None)
passes_first true e rest none = absurd (cc)
passes_first false e rest none = (refl, none)

-- none of them holds
pub record Passes (layout : Layout) (s : State) : Type 0 where
  pub rest : is_at_rest (memory s) ≡ true
  pub fits : length s.table.sessions ≤ layout.clients
  pub room : needed layout (memory s) ≤ layout.blocks

pub passes_tests : (layout : Layout) (s : State) (behind : List (Bool × Ending))
    → first_refusal (rest_tests layout (memory s) ++ behind) ≡ None → Passes layout s
passes_tests layout s behind none =
    let full : Bool × Ending = (nat_lt layout.blocks (needed layout (memory s)), TooFewBlocks (needed layout (memory s)) layout.blocks) in
    let few : Bool × Ending = (nat_lt layout.clients (length (memory s).sessions), TooFewClients (length (memory s).sessions) layout.clients) in
    let one = passes_first
    (not (is_at_rest (memory s))) (NotAtRest (memory s).content.op (memory s).head (memory s).replies) (few ∷ full ∷ behind) none in
    let two = passes_first few.0 few.1 (full ∷ behind) one.1 in let three = passes_first full.0 full.1 behind two.1 in record {
      rest = not-false (is_at_rest (memory s)) one.0;
      fits = omega (arith, ltb-false layout.clients (length (memory s).sessions) two.0, length-map s.table.sessions session_of);
      room = ltb-false layout.blocks (needed layout (memory s)) three.0;
    }

-- the three tests
abbrev three : (a b c : Bool) (x y z : Ending) → Option Ending
three a b c x y z = first_refusal ((a, x) ∷ (b, y) ∷ (c, z) ∷ [])

-- what none of the three endings is, the first that is answered isn't
first_is : (a b c : Bool) (x y z e : Ending) (test : Ending → Bool)
    → test x ≡ false → test y ≡ false → test z ≡ false → three a b c x y z ≡ Some e → test e ≡ false
first_is true b c x y z e test one two last is = ap test (sym (same_Some x e is)) ∙ one
first_is false true c x y z e test one two last is = ap test (sym (same_Some y e is)) ∙ two
first_is false false true x y z e test one two last is = ap test (sym (same_Some z e is)) ∙ last
first_is false false false x y z e test one two last is = absurd (none-some e is)

module _ (layout : Layout) (s : State) where
  -- a refusal by one of them blames no disk
  pub rest_blames : (count : ℕ) (e : Ending)
      → first_refusal (rest_tests layout (memory s)) ≡ Some e → Blamed (is_source e) count count × Blamed (is_target e) count count
  rest_blames count e is = (by is_source refl refl refl, by is_target refl refl refl)
    where
      by : (test : Ending → Bool) → test (NotAtRest (memory s).content.op (memory s).head (memory s).replies) ≡ false → test (TooFewClients (length (memory s).sessions) layout.clients) ≡ false → test (TooFewBlocks (needed layout (memory s)) layout.blocks) ≡ false → Blamed (test e) count count
      by test one two last = subst (λ (b : Bool). Blamed b count count)
          (sym (first_is (not (is_at_rest (memory s))) (nat_lt layout.clients (length (memory s).sessions)) (nat_lt layout.blocks (needed layout (memory s))) (NotAtRest (memory s).content.op (memory s).head (memory s).replies) (TooFewClients (length (memory s).sessions) layout.clients) (TooFewBlocks (needed layout (memory s)) layout.blocks) e test one two last is)) refl

  abbrev sessions : ℕ
  sessions = length (memory s).sessions

  pub how_many : sessions ≡ length s.table.sessions
  how_many = length-map s.table.sessions session_of

  abbrev clients : ℕ → Ending
  clients n = TooFewClients n layout.clients

  abbrev blocks : Ending
  blocks = TooFewBlocks (needed layout (memory s)) layout.blocks

  abbrev few : Bool
  few = nat_lt layout.clients sessions

  abbrev full : Bool
  full = nat_lt layout.blocks (needed layout (memory s))

  -- ---- how long the text is

  abbrev text : ℕ
  text = text_size (layout_of layout) (length s.root) (length s.table.sessions) (length (references (memory s)))

  sized : (b : Bool) → (s.fields.trailer_address == 0) ≡ b → trailer_size layout (memory s) ≡ (if not b then text else 0)
  sized b is =
      ap (λ (c : Bool). if not c then text_size (layout_of layout) (length s.root) sessions (length (references (memory s))) else 0) is
      ∙ ap (λ (n : ℕ). if not b then text_size (layout_of layout) (length s.root) n (length (references (memory s))) else 0) how_many

  pub size_none : s.fields.trailer_address ≡ 0 → trailer_size layout (memory s) ≡ 0
  size_none is = sized true (eq-eqb s.fields.trailer_address 0 is)

  pub size_some : (s.fields.trailer_address ≡ 0 → ⊥) → trailer_size layout (memory s) ≡ text
  size_some is = sized false (ne_eqb s.fields.trailer_address 0 is)

  -- that of a root of this many bytes, this many sessions and this many references
  pub text_as : (root count references_count : ℕ) → root ≡ length s.root
      → count ≡ length s.table.sessions → references_count ≡ length (references (memory s)) → (s.fields.trailer_address ≡ 0 → ⊥)
      → text_size (layout_of layout) root count references_count ≡ trailer_size layout (memory s)
  text_as root count references_count root_is count_is references_is is =
      ap (λ (n : ℕ). text_size (layout_of layout) n count references_count) root_is
      ∙ ap (λ (n : ℕ). text_size (layout_of layout) (length s.root) n references_count) count_is
      ∙ ap (λ (n : ℕ). text_size (layout_of layout) (length s.root) (length s.table.sessions) n) references_is ∙ sym (size_some is)

-- ---- the references, address by address

module _ (m : Memory) (b : ℕ) (less : b < m.layout.blocks) where
  -- those after an address
  abbrev behind : ℕ → List (ℕ × ℕ)
  behind a = references_from m (a + 1) (m.layout.blocks - a)

  -- what stands at the next address, and after it
  pub references_next : (o : Option ℕ) → sum_at (b + 1) m.blocks.live ≡ o → behind b ≡ entry (b + 1) o (behind (b + 1))
  references_next o found = ap (λ (k : ℕ). references_from m (b + 1) k) one_more ∙ ap (λ (q : Option ℕ). entry (b + 1) q (behind (b + 1))) found
    where
      one_more : m.layout.blocks - b ≡ suc (m.layout.blocks - (b + 1))
      one_more = omega (arith, less)

  -- they are counted
  pub counted_live : (count total c : ℕ)
      → count + length (behind b) ≡ total → sum_at (b + 1) m.blocks.live ≡ Some c → count + 1 + length (behind (b + 1)) ≡ total
  counted_live count total c is found = let all = ap (λ (l : List (ℕ × ℕ)). length l) (references_next (Some c) found) in omega (arith, is, all)

  pub counted_none : (count total : ℕ)
      → count + length (behind b) ≡ total → sum_at (b + 1) m.blocks.live ≡ None → count + length (behind (b + 1)) ≡ total
  counted_none count total is found = let all = ap (λ (l : List (ℕ × ℕ)). length l) (references_next None found) in omega (arith, is, all)
