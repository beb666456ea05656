-- What fails in a text, whatever comes after it, fails in each longer text.
use Rattle.std.{proofs.{Common.{◌≡◌, ℕ, zero, suc, ◌+◌, ◌-◌, ◌*◌, ◌/◌, ◌^◌, ◌<◌, ◌≤◌, ◌==◌, Bool, true, false, nat_lt, inl, inr, Option, Some, None, List, [], ◌∷◌, ◌++◌, length, refl, ap, ◌∙◌, arith, length-append}, lemmas.Bool.{cases_Bool, cases_lt, lt-ltb, le-ltb, le-leb, lt-leb}}, specs.Prelude.{min, nat_le, if◌then◌else◌}}
use Rattle.{df_base.{specs.Fields.{field_at}, proofs.Laws.{field_front}}, df_theory.specs.Units.{Layout, Session}}
use Rattle.df_model.specs.Refusals.{first_refusal}
use Rattle.df_trailer.{specs.{declared.fault.Failing.{Failing}, declared.fault.Fault.{Fault}, Text.{fault, fault_in, refusal_in, says, tests, bits, bits_at, checks_at, count, count_at, end_at, first_wrong, is_wrong, read_sessions, refusal, root_size, session, sessions_at, whole, wrong_place}}, proofs.{Longer.{root_front}, Sessions.{session_front, sessions_front}}}

wrong_front : (op : ℕ) (before : List Session) (n m at : ℕ) (t ys : List ℕ)
    → n ≤ m → at + 32 * n ≤ length t → wrong_place op before (read_sessions n at t) < n
    → wrong_place op before (read_sessions m at (t ++ ys)) ≡ wrong_place op before (read_sessions n at t)
wrong_front op before zero m at t ys more fits wrong = absurd (omega arith)
wrong_front op before (suc n) zero at t ys more fits wrong = absurd (omega arith)
wrong_front op before (suc n) (suc m) at t ys more fits wrong =
    ap (λ (s : Session). wrong_place op before (s ∷ read_sessions m (at + 32) (t ++ ys))) (session_front at t ys (omega arith))
    ∙ elim (cases_Bool (is_wrong op before (session at t))) [
      | inl is ↦ rw is refl
      | inr fine ↦
          rw fine (ap suc (wrong_front op (session at t ∷ before) n m (at + 32) t ys (omega arith) (omega arith) (less (rw fine at wrong))))
    ]
  where
    less : suc (wrong_place op (session at t ∷ before) (read_sessions n (at + 32) t)) < suc n
        → wrong_place op (session at t ∷ before) (read_sessions n (at + 32) t) < n
    less h = omega arith

no_fault_here : (f : Fault) → None ≡ Some f → ⊥
no_fault_here f e = cc

-- where root and sessions are there whole and keep the rules
behind_head : (l : Layout) (op : ℕ) (t ys : List ℕ) (f : Fault)
    → 4 ≤ length t → root_size t ≤ 1024 → sessions_at t ≤ length t → count t ≤ l.clients → whole t ≤ first_wrong op t → bits_at t ≤ length t
    → refusal l op t ≡ Some f → refusal l op (t ++ ys) ≡ Some f
behind_head l op t ys f four low reach few right past is = let size = length-append t ys in
    let root : root_size (t ++ ys) ≡ root_size t = root_front t ys four in
    let c : nat_lt 1024 (root_size t) ≡ false = le-ltb 1024 (root_size t) low in
    let a0 : nat_lt (length t) 4 ≡ false = le-ltb (length t) 4 four in
    let b0 : nat_lt (length (t ++ ys)) 4 ≡ false = le-ltb (length (t ++ ys)) 4 (omega arith) in
    let a2 : nat_lt (length t) (4 + root_size t) ≡ false = le-ltb (length t) (4 + root_size t) (omega arith) in
    let b2 : nat_lt (length (t ++ ys)) (4 + root_size t) ≡ false = le-ltb (length (t ++ ys)) (4 + root_size t) (omega arith) in
    let a3 : nat_lt (length t) (4 + root_size t + 4) ≡ false = le-ltb (length t) (4 + root_size t + 4) reach in
    let b3 : nat_lt (length (t ++ ys)) (4 + root_size t + 4) ≡ false = le-ltb (length (t ++ ys)) (4 + root_size t + 4) (omega arith) in
    let all : field_at 4 (4 + root_size t) (t ++ ys) ≡ count t = field_front 4 (4 + root_size t) t ys reach in
    let u : nat_lt l.clients (count t) ≡ false = le-ltb l.clients (count t) few in
    let w : nat_lt (first_wrong op t) (whole t) ≡ false = le-ltb (first_wrong op t) (whole t) right in let at : ℕ = 4 + root_size t + 4 in
    let wt : whole t ≡ count t = omega arith in
    let wy : min (count t) ((length (t ++ ys) - (4 + root_size t + 4)) / 32) ≡ count t = omega arith in
    let ss : read_sessions (count t) (4 + root_size t + 4) (t ++ ys) ≡ read_sessions (count t) (4 + root_size t + 4) t =
    sessions_front (count t) (4 + root_size t + 4) t ys past in
    let kept : count t ≤ wrong_place op [] (read_sessions (count t) at t) = rw wt at right in
    let w' : nat_lt (wrong_place op [] (read_sessions (count t) (4 + root_size t + 4) t)) (count t) ≡ false =
    le-ltb (wrong_place op [] (read_sessions (count t) at t)) (count t) kept in
    let a6 : nat_lt (length t) (4 + root_size t + 4 + 32 * count t) ≡ false = le-ltb (length t) (4 + root_size t + 4 + 32 * count t) past in
    let b6 : nat_lt (length (t ++ ys)) (4 + root_size t + 4 + 32 * count t) ≡ false =
    le-ltb (length (t ++ ys)) (4 + root_size t + 4 + 32 * count t) (omega arith) in elim (cases_lt (length t) (checks_at l t)) [
      | inl cut ↦ let d : nat_lt (length t) (4 + root_size t + 4 + 32 * count t + (l.blocks + 7) / 8) ≡ true =
          lt-ltb (length t) (4 + root_size t + 4 + 32 * count t + (l.blocks + 7) / 8) cut in
          absurd (no_fault_here f (rw (a0, c, a2, a3, u, w, a6, d) at is))
      | inr enough ↦ let a7 : nat_lt (length t) (4 + root_size t + 4 + 32 * count t + (l.blocks + 7) / 8) ≡ false =
          le-ltb (length t) (4 + root_size t + 4 + 32 * count t + (l.blocks + 7) / 8) enough in
          let b7 : nat_lt (length (t ++ ys)) (4 + root_size t + 4 + 32 * count t + (l.blocks + 7) / 8) ≡ false =
          le-ltb (length (t ++ ys)) (4 + root_size t + 4 + 32 * count t + (l.blocks + 7) / 8) (omega arith) in
          let same : field_at ((l.blocks + 7) / 8) (4 + root_size t + 4 + 32 * count t) (t ++ ys) ≡ bits l t =
          field_front ((l.blocks + 7) / 8) (4 + root_size t + 4 + 32 * count t) t ys enough in elim (cases_lt (bits l t) (2 ^ l.blocks)) [
            | inr large ↦ let h : nat_le (2 ^ l.blocks) (bits l t) ≡ true = le-leb (2 ^ l.blocks) (bits l t) large in
                rw (b0, root, c, b2, b3, all, u, wy, ss, w', b6, b7, same, h) (rw (a0, c, a2, a3, u, w, a6, a7, h) at is)
            | inl small ↦ let h : nat_le (2 ^ l.blocks) (bits l t) ≡ false = lt-leb (2 ^ l.blocks) (bits l t) small in
                elim (cases_Bool (length t == end_at l t)) [
                  | inl g ↦ absurd (no_fault_here f (rw (a0, c, a2, a3, u, w, a6, a7, h, g) at is))
                  | inr g ↦ absurd (no_fault_here f (rw (a0, c, a2, a3, u, w, a6, a7, h, g) at is))
                ]
          ]
    ]

pub refusal_stays : (l : Layout) (op : ℕ) (t ys : List ℕ) (f : Fault) → refusal l op t ≡ Some f → refusal l op (t ++ ys) ≡ Some f
refusal_stays l op t ys f is = let size = length-append t ys in elim (cases_lt (length t) 4) [
  | inl short ↦ let a : nat_lt (length t) 4 ≡ true = lt-ltb (length t) 4 short in absurd (ends (rw a at is))
  | inr four ↦ let a0 : nat_lt (length t) 4 ≡ false = le-ltb (length t) 4 four in
      let b0 : nat_lt (length (t ++ ys)) 4 ≡ false = le-ltb (length (t ++ ys)) 4 (omega arith) in
      let root : root_size (t ++ ys) ≡ root_size t = root_front t ys four in elim (cases_lt 1024 (root_size t)) [
        | inl long ↦ let c : nat_lt 1024 (root_size t) ≡ true = lt-ltb 1024 (root_size t) long in rw (b0, root, c) (rw (a0, c) at is)
        | inr low ↦ let c : nat_lt 1024 (root_size t) ≡ false = le-ltb 1024 (root_size t) low in elim (cases_lt (length t) (count_at t)) [
          | inl cut ↦ let d : nat_lt (length t) (4 + root_size t) ≡ true = lt-ltb (length t) (4 + root_size t) cut in
              absurd (ends (rw (a0, c, d) at is))
          | inr had ↦ let a2 : nat_lt (length t) (4 + root_size t) ≡ false = le-ltb (length t) (4 + root_size t) had in
              let b2 : nat_lt (length (t ++ ys)) (4 + root_size t) ≡ false = le-ltb (length (t ++ ys)) (4 + root_size t) (omega arith) in
              elim (cases_lt (length t) (sessions_at t)) [
                | inl cut ↦ let d : nat_lt (length t) (4 + root_size t + 4) ≡ true = lt-ltb (length t) (4 + root_size t + 4) cut in
                    absurd (ends (rw (a0, c, a2, d) at is))
                | inr reach ↦
                    let a3 : nat_lt (length t) (4 + root_size t + 4) ≡ false = le-ltb (length t) (4 + root_size t + 4) reach in
                    let b3 : nat_lt (length (t ++ ys)) (4 + root_size t + 4) ≡ false =
                    le-ltb (length (t ++ ys)) (4 + root_size t + 4) (omega arith) in
                    let all : field_at 4 (4 + root_size t) (t ++ ys) ≡ count t = field_front 4 (4 + root_size t) t ys reach in
                    elim (cases_lt l.clients (count t)) [
                      | inl many ↦ let u : nat_lt l.clients (count t) ≡ true = lt-ltb l.clients (count t) many in
                          rw (b0, root, c, b2, b3, all, u) (rw (a0, c, a2, a3, u) at is)
                      | inr few ↦ let u : nat_lt l.clients (count t) ≡ false = le-ltb l.clients (count t) few in
                          elim (cases_lt (first_wrong op t) (whole t)) [
                            | inl wrong ↦
                                let w : nat_lt (first_wrong op t) (whole t) ≡ true = lt-ltb (first_wrong op t) (whole t) wrong in
                                let m : ℕ = min (count t) ((length (t ++ ys) - (4 + root_size t + 4)) / 32) in
                                let same : wrong_place op [] (read_sessions m (4 + root_size t + 4) (t ++ ys)) ≡ first_wrong op t =
                                wrong_front op [] (whole t) m (4 + root_size t + 4) t ys (omega arith) (omega arith) wrong in
                                let v : nat_lt (first_wrong op t) m ≡ true = lt-ltb (first_wrong op t) m (omega arith) in
                                rw (b0, root, c, b2, b3, all, u, same, v) (rw (a0, c, a2, a3, u, w) at is)
                            | inr right ↦
                                let w : nat_lt (first_wrong op t) (whole t) ≡ false = le-ltb (first_wrong op t) (whole t) right in
                                elim (cases_lt (length t) (bits_at t)) [
                                  | inl cut ↦ let d : nat_lt (length t) (4 + root_size t + 4 + 32 * count t) ≡ true = lt-ltb (length t)
                                      (4 + root_size t + 4 + 32 * count t) cut in absurd (ends (rw (a0, c, a2, a3, u, w, d) at is))
                                  | inr past ↦ behind_head l op t ys f four low reach few right past is
                                ]
                          ]
                    ]
              ]
        ]
      ]
]
  where
    ends : None ≡ Some f → ⊥
    ends e = cc

says_first : (o : Option Failing) (f : Fault) → refusal_in o ≡ Some f → fault_in o ≡ Some f
says_first None f is = is
says_first (Some g) f is = pick (says g.cause) is
  where
    pick : (b : Bool) → (if b then Some g.fault else None) ≡ Some f → Some g.fault ≡ Some f
    pick true e = e
    pick false e = absurd (cc)

pub refusal_is_fault : (l : Layout) (op : ℕ) (t : List ℕ) (f : Fault) → refusal l op t ≡ Some f → fault l op t ≡ Some f
refusal_is_fault l op t f is = says_first (first_refusal (tests l op t)) f is
