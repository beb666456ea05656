-- Which ops the sessions of a table have, and what a reader gives that has read a whole text: for those who read a trailer.
use Rattle.std.proofs.{Common.{◌≡◌, ℕ, zero, suc, ◌==◌, ◌||◌, Bool, true, false, inl, inr, Option, Some, None, List, [], ◌∷◌, map, refl, sym, ap, ◌∙◌, subst}, lemmas.Bool.{cases_eq, eq-eqb, ne_eqb, or_parts}}
use Rattle.{df_layout.specs.declared.layout.Layout.{Layout}, df_format.specs.declared.superblock.SuperFields.{SuperFields}}
use Rattle.df_theory.specs.Units
use Rattle.{df_theory.specs.Sessions.{Has}, df_sessions.specs.{declared.session.Session.{Session}, Requests.{session_of, sessions_of}}}
use Rattle.{df_trailer.specs.{Reading.{HasRead}, Rooms.{without_reply}, declared.reader.Reader.{Reader}}, df_grid.specs.Grid.{GridState}}
use Rattle.df_checkpoint.specs.{Reads.{IsCompleteReader}, Waiting.{IsPendingReply, has_op}}

-- the table's sessions are the text's
pub sessions_back : (ss : List Units.Session) → sessions_of (map without_reply ss) ≡ ss
sessions_back [] = refl
sessions_back (s ∷ ss) = ap (λ (l : List Units.Session). s ∷ l) (sessions_back ss)

pub has_is : (op : ℕ) (ss : List Session) → has_op op ss ≡ true → Has (sessions_of ss) op
has_is op [] is = absurd (cc)
has_is op (s ∷ ss) is = elim (cases_eq s.op op) [
  | inl same ↦ (0, session_of s, refl, same)
  | inr other ↦ let rest = has_is op ss (ap (λ (b : Bool). b || has_op op ss) (sym (ne_eqb s.op op other)) ∙ is) in
      (suc rest.0, rest.1, rest.2, rest.3)
]

pub has_not : (op : ℕ) (ss : List Session) → has_op op ss ≡ false → Has (sessions_of ss) op → ⊥
has_not op [] is (k, s, at, same) = let no : None ≡ Some s = at in cc
has_not op (t ∷ ss) is (zero, s, at, same) = let here : (t.op == op) ≡ false = (or_parts (t.op == op) (has_op op ss) is).0 in
    let one : session_of t ≡ s = (let both : Some (session_of t) ≡ Some s = at in cc) in
    let there : (t.op == op) ≡ true = eq-eqb t.op op (ap (λ (x : Units.Session). x.op) one ∙ same) in
    let both : true ≡ false = sym there ∙ here in cc
has_not op (t ∷ ss) is (suc k, s, at, same) = has_not op ss (or_parts (t.op == op) (has_op op ss) is).1 (k, s, at, same)

-- a reader that has read a whole text gives this of it
pub complete_gives : (P : Layout → ℕ → Type 0) (g : GridState) (op : ℕ) (reader : Reader) (layout : Layout) → IsCompleteReader g op reader
    → g.layout ≡ layout → ((l : Layout) (o : ℕ) (text : List ℕ) → HasRead l o reader text → P l o) → P layout op
complete_gives P g op reader layout complete same gives = subst (λ (l : Layout). P l op) same (gives g.layout op complete.text complete.has)

-- the ops that wait, of copies of the sessions and of the superblock
pub pending_of : (lent ss : List Session) (fields f : SuperFields) (o : Option ℕ)
    → lent ≡ ss → fields ≡ f → IsPendingReply lent fields.replies fields.op o → IsPendingReply ss f.replies f.op o
pending_of lent ss fields f o same one pending = rw same at (rw one at pending)
