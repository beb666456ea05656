-- Who may ask, and what a request makes of lawful sessions.
use Rattle.std.{proofs.{Common.{◌≡◌, inl, inr, ℕ, ◌+◌, ◌<◌, ◌≤◌, ◌==◌, Bool, true, false, if◌then◌else◌, List, [], ◌∷◌, length, Some, None, refl, sym, ◌∙◌, ap, subst, zero, suc, arith, eqb-true}, lemmas.Bool.{eqb-false}}, specs.{Prelude.{◌-◌}, List.{slice_get}}}
use Rattle.df_theory.{specs.{Units.{Header, Message, Session}, Sessions.{Has, MayAsk, noted, session_of_header, sessions_after}, Tails.{Chain, In}}, proofs.Laws.{noted_get}}
use Rattle.df_model.specs.{Codec.{AreLawful, IsLawfulSession}, Refusals.{session_of_client, is_new}, Making.{place_of_op}, After.{place_of_client}}

-- ---- a client's session

known_case : (h : Header) (x s : Session) (ss : List Session) (room : ℕ) (b : Bool) → (x.client == h.client) ≡ b
    → (if b then Some x else session_of_client h.client ss) ≡ Some s → length ss + 1 ≤ room → h.request ≡ s.request + 1 → s.op ≤ h.mark
    → ((k : ℕ) → length ss ≤ k → session_of_client h.client ss ≡ Some s → MayAsk k h ss) → MayAsk room h (x ∷ ss)
known_case h x s ss room true is there few next answered more = let one : x ≡ s = (let both : Some x ≡ Some s = there in cc) in
    inl (eqb-true x.client h.client is, next ∙ ap (λ (t : Session). t.request + 1) (sym one), rw (sym one) at answered)
known_case h x s ss room false is there few next answered more =
    inr (eqb-false x.client h.client is, room - 1, omega arith, more (room - 1) (omega arith) there)

pub known_asks : (room : ℕ) (h : Header) (ss : List Session) (s : Session)
    → session_of_client h.client ss ≡ Some s → length ss ≤ room → h.request ≡ s.request + 1 → s.op ≤ h.mark → MayAsk room h ss
known_asks room h [] s there few next answered = absurd (cc)
known_asks room h (x ∷ ss) s there few next answered = known_case
    h x s ss room (x.client == h.client) refl there (omega arith) next answered (λ k less at. known_asks k h ss s at less next answered)

new_case : (h : Header) (x : Session) (ss : List Session) (room : ℕ) (b : Bool)
    → (x.client == h.client) ≡ b → (if b then Some x else session_of_client h.client ss) ≡ None → length ss + 1 < room
    → ((k : ℕ) → length ss < k → session_of_client h.client ss ≡ None → MayAsk k h ss) → MayAsk room h (x ∷ ss)
new_case h x ss room true is there few more = absurd (cc)
new_case h x ss room false is there few more = inr (eqb-false x.client h.client is, room - 1, omega arith, more (room - 1) (omega arith) there)

pub new_asks : (room : ℕ) (h : Header) (ss : List Session)
    → session_of_client h.client ss ≡ None → length ss < room → h.request ≡ 1 → MayAsk room h ss
new_asks room h [] there few first = (first, omega arith)
new_asks room h (x ∷ ss) there few first =
    new_case h x ss room (x.client == h.client) refl there (omega arith) (λ k less at. new_asks k h ss at less first)

-- ---- lawful sessions

few_case : (h : Header) (x : Session) (ss rest : List Session) (room : ℕ) (b : Bool) → (x.client == h.client) ≡ b
    → MayAsk room h (x ∷ ss) → length ss + 1 ≤ room → ((k : ℕ) → MayAsk k h ss → length ss ≤ k → length rest ≤ k)
    → length (if b then session_of_header h ∷ ss else x ∷ rest) ≤ room
few_case h x ss rest room true is may few more = omega arith
few_case h x ss rest room false is (inl here) few more = absurd (eqb-false x.client h.client is here.0)
few_case h x ss rest room false is (inr there) few more = omega (arith, more there.1 there.3 (omega (arith, there.2)), there.2)

pub noted_few : (room : ℕ) (h : Header) (ss : List Session) → MayAsk room h ss → length ss ≤ room → length (noted h ss) ≤ room
noted_few room h [] may few = omega (arith, may.1)
noted_few room h (x ∷ ss) may few =
    few_case h x ss (noted h ss) room (x.client == h.client) refl may (omega arith) (λ k asks less. noted_few k h ss asks less)

abbrev pub Apart : List Session → Type 0
Apart ss = (j k : ℕ) (s t : Session) → slice_get ss j ≡ Some s → slice_get ss k ≡ Some t → s.client ≡ t.client → j ≡ k

abbrev pub client : Session → ℕ
client s = s.client

apart_case : (h : Header) (x : Session) (ss : List Session) (b : Bool)
    → (x.client == h.client) ≡ b → Apart (x ∷ ss) → Apart (noted h ss) → Apart (if b then session_of_header h ∷ ss else x ∷ noted h ss)
apart_case h x ss true is old rest zero zero s t one two same = refl
apart_case h x ss true is old rest zero (suc k) s t one two same =
    let new : session_of_header h ≡ s = (let both : Some (session_of_header h) ≡ Some s = one in cc) in
    let none : 0 ≡ suc k = old 0 (suc k) x t refl two (eqb-true x.client h.client is ∙ ap client new ∙ same) in absurd (omega arith)
apart_case h x ss true is old rest (suc j) zero s t one two same =
    let new : session_of_header h ≡ t = (let both : Some (session_of_header h) ≡ Some t = two in cc) in
    let none : suc j ≡ 0 = old (suc j) 0 s x one refl (same ∙ sym (ap client new) ∙ sym (eqb-true x.client h.client is)) in
    absurd (omega arith)
apart_case h x ss true is old rest (suc j) (suc k) s t one two same = old (suc j) (suc k) s t one two same
apart_case h x ss false is old rest zero zero s t one two same = refl
apart_case h x ss false is old rest zero (suc k) s t one two same = elim (noted_get h ss k t two) [
  | inl new ↦ let here : x ≡ s = (let both : Some x ≡ Some s = one in cc) in
      absurd (eqb-false x.client h.client is (ap client here ∙ same ∙ ap client new))
  | inr there ↦ absurd (let none : 0 ≡ suc k = old 0 (suc k) s t one there same in omega arith)
]
apart_case h x ss false is old rest (suc j) zero s t one two same = elim (noted_get h ss j s one) [
  | inl new ↦ let here : x ≡ t = (let both : Some x ≡ Some t = two in cc) in
      absurd (eqb-false x.client h.client is (ap client here ∙ sym same ∙ ap client new))
  | inr there ↦ absurd (let none : suc j ≡ 0 = old (suc j) 0 s t there two same in omega arith)
]
apart_case h x ss false is old rest (suc j) (suc k) s t one two same = ap suc (rest j k s t one two same)

pub noted_apart : (h : Header) (ss : List Session) → Apart ss → Apart (noted h ss)
noted_apart h [] old zero zero s t one two same = refl
noted_apart h [] old zero (suc k) s t one two same = absurd (let none : None ≡ Some t = two in cc)
noted_apart h [] old (suc j) k s t one two same = absurd (let none : None ≡ Some s = one in cc)
noted_apart h (x ∷ ss) old j k s t one two same = apart_case h x ss (x.client == h.client) refl old (noted_apart h
    ss (λ a c u w first second is. let next : suc a ≡ suc c = old (suc a) (suc c) u w first second is in omega arith)) j k s t one two same

pub noted_lawful : (room : ℕ) (h : Header) (ss : List Session)
    → AreLawful room ss → MayAsk room h ss → IsLawfulSession (session_of_header h) → AreLawful room (noted h ss)
noted_lawful room h ss lawful may own = record {
  few = noted_few room h ss may lawful.few;
  each = λ k s at. elim (noted_get h ss k s at) [
    | inl new ↦ subst IsLawfulSession (sym new) own
    | inr old ↦ lawful.each k s old
  ];
  apart = noted_apart h ss lawful.apart;
}

pub chain_lawful : (clients op parent mark : ℕ) (ss : List Session) (ps : List Message) → AreLawful clients ss → Chain clients op
    parent mark ss ps → ((p : Message) → In p ps → IsLawfulSession (session_of_header p.header)) → AreLawful clients (sessions_after ss ps)
chain_lawful clients op parent mark ss [] lawful chain each = lawful
chain_lawful clients op parent mark ss (p ∷ ps) lawful chain each = chain_lawful clients (op + 1) p.header.checksum p.header.mark
    (noted p.header ss) ps (noted_lawful clients p.header ss lawful chain.0.asks (each p (inl refl))) chain.1 (λ q at. each q (inr at))

-- ---- the session of an op

abbrev pub IsAtOp : ℕ → List Session → Type 0
IsAtOp op ss = (s : Session) × (slice_get ss (place_of_op op ss) ≡ Some s) × (s.op ≡ op)

found_case : (op : ℕ) (x : Session) (ss : List Session) (b : Bool) → (x.op == op) ≡ b → Has (x ∷ ss) op
    → (Has ss op → IsAtOp op ss) → (s : Session) × (slice_get (x ∷ ss) (if b then 0 else suc (place_of_op op ss)) ≡ Some s) × (s.op ≡ op)
found_case op x ss true is has more = (x, refl, eqb-true x.op op is)
found_case op x ss false is (zero, s, at, op_is) more = let one : x ≡ s = (let both : Some x ≡ Some s = at in cc) in
    absurd (eqb-false x.op op is (ap (λ (t : Session). t.op) one ∙ op_is))
found_case op x ss false is (suc k, s, at, op_is) more = more (k, s, at, op_is)

pub op_found : (op : ℕ) (ss : List Session) → Has ss op → IsAtOp op ss
op_found op [] has = absurd (let none : None ≡ Some has.1 = has.2 in cc)
op_found op (x ∷ ss) has = found_case op x ss (x.op == op) refl has (λ more. op_found op ss more)

-- a client that has a session has it at one of their places
pub place_known : (client : ℕ) (ss : List Session) → is_new (session_of_client client ss) ≡ false → place_of_client client ss < length ss
place_known client [] known = absurd (cc)
place_known client (s ∷ ss) known = go (s.client == client) known (place_known client ss)
  where
    go : (b : Bool) → is_new (if b then Some s else session_of_client client ss) ≡ false
        → (is_new (session_of_client client ss) ≡ false → place_of_client client ss < length ss)
        → (if b then 0 else suc (place_of_client client ss)) < length (s ∷ ss)
    go true known more = omega arith
    go false known more = omega (arith, more known)
