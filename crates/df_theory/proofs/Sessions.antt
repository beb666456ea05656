-- Tails and sessions, longer and shorter.
use Rattle.std.{proofs.{Common.{◌≡◌, ◌⊎◌, inl, inr, ℕ, zero, suc, ◌==◌, Bool, true, false, if◌then◌else◌, ◌+◌, ◌<◌, ◌≤◌, List, [], ◌∷◌, ◌++◌, length, take, drop, Some, None, refl, sym, ◌∙◌, ap, subst, arith, eqb-true, eq-eqb}, lemmas.List.{take-append-drop}, lemmas.Bool.{cases_eq}}, specs.List.{slice_get}}
use Rattle.df_theory.specs.{Units.{Header, Message, Session}, Sessions.{Has, MayAsk, Tracks, noted, session_of_header, sessions_after}, Tails.{Chain, In, last_checksum, last_mark}, Shape.{clients}}

pub chain_append : (clients op parent mark : ℕ) (ss : List Session) (ps qs : List Message) → Chain clients op parent mark ss ps
    → Chain clients (op + length ps) (last_checksum parent ps) (last_mark mark ps) (sessions_after ss ps) qs
    → Chain clients op parent mark ss (ps ++ qs)
chain_append clients op parent mark ss [] qs chain more = let same : op + 0 ≡ op = omega arith in
    subst (λ (k : ℕ). Chain clients k parent mark ss qs) same more
chain_append clients op parent mark ss (x ∷ ps) qs chain more = let same : op + suc (length ps) ≡ op + 1 + length ps = omega arith in
    (chain.0, chain_append clients (op + 1) x.header.checksum x.header.mark (noted x.header ss) ps qs chain.1 (rw same at more))

pub last_mark-append : (m : ℕ) (ps qs : List Message) → last_mark m (ps ++ qs) ≡ last_mark (last_mark m ps) qs
last_mark-append m [] qs = refl
last_mark-append m (x ∷ ps) qs = last_mark-append x.header.mark ps qs

pub last_checksum-append : (c : ℕ) (ps qs : List Message) → last_checksum c (ps ++ qs) ≡ last_checksum (last_checksum c ps) qs
last_checksum-append c [] qs = refl
last_checksum-append c (x ∷ ps) qs = last_checksum-append x.header.checksum ps qs

-- where each carries this mark
pub last_mark-each : (m n : ℕ) (ps : List Message) → 0 < length ps → ((p : Message) → In p ps → p.header.mark ≡ n) → last_mark m ps ≡ n
last_mark-each m n [] some each = absurd (omega arith)
last_mark-each m n (p ∷ []) some each = each p (inl refl)
last_mark-each m n (p ∷ q ∷ ps) some each = last_mark-each p.header.mark n (q ∷ ps) (omega arith) (λ x at. each x (inr at))

pub sessions-append : (ss : List Session) (ps qs : List Message) → sessions_after ss (ps ++ qs) ≡ sessions_after (sessions_after ss ps) qs
sessions-append ss [] qs = refl
sessions-append ss (p ∷ ps) qs = sessions-append (noted p.header ss) ps qs

chain_low : (clients op parent mark low : ℕ) (ss : List Session) (ps : List Message)
    → low ≤ mark → Chain clients op parent mark ss ps → Chain clients op parent low ss ps
chain_low clients op parent mark low ss [] le chain = tt
chain_low clients op parent mark low ss (x ∷ ps) le chain = (record { op_is = chain.0.op_is; parent_is = chain.0.parent_is; mark_from = omega (arith, chain.0.mark_from); mark_below = chain.0.mark_below; mark_near = chain.0.mark_near; group = chain.0.group; asks = chain.0.asks }, chain.1)

pub chain_drop : (n clients op parent mark : ℕ) (ss : List Session) (ps : List Message) → n ≤ length ps → Chain clients op parent mark ss ps
    → Chain clients (op + n) (last_checksum parent (take n ps)) 0 (sessions_after ss (take n ps)) (drop n ps)
chain_drop zero clients op parent mark ss ps small chain = let same : op ≡ op + 0 = omega arith in
    subst (λ (k : ℕ). Chain clients k parent 0 ss ps) same (chain_low clients op parent mark 0 ss ps (omega arith) chain)
chain_drop (suc n) clients op parent mark ss [] small chain = absurd (omega arith)
chain_drop (suc n) clients op parent mark ss (x ∷ ps) small chain = let same : op + 1 + n ≡ op + suc n = omega arith in
    subst (λ (k : ℕ). Chain clients k (last_checksum x.header.checksum (take n ps)) 0 (sessions_after (noted x.header ss) (take n ps))
    (drop n ps)) same (chain_drop n clients (op + 1) x.header.checksum x.header.mark (noted x.header ss) ps (omega arith) chain.1)

last_low : (low m : ℕ) (ps : List Message) → low ≤ m → last_mark low ps ≤ last_mark m ps
last_low low m [] le = le
last_low low m (x ∷ ps) le = omega arith

pub last_mark-drop : (n m : ℕ) (ps : List Message) → last_mark 0 (drop n ps) ≤ last_mark m ps
last_mark-drop zero m ps = last_low 0 m ps (omega arith)
last_mark-drop (suc n) m [] = omega arith
last_mark-drop (suc n) m (x ∷ ps) = last_mark-drop n x.header.mark ps

pub sessions-drop : (n : ℕ) (ss : List Session) (ps : List Message)
    → sessions_after (sessions_after ss (take n ps)) (drop n ps) ≡ sessions_after ss ps
sessions-drop n ss ps =
    sym (sessions-append ss (take n ps) (drop n ps)) ∙ ap (λ (l : List Message). sessions_after ss l) (take-append-drop n ps)

noted_first : (h : Header) (s t : Session) (ss rest : List Session) (b : Bool)
    → slice_get (if b then session_of_header h ∷ ss else s ∷ rest) 0 ≡ Some t → (t ≡ session_of_header h) ⊎ (s ≡ t)
noted_first h s t ss rest true is = inl (let both : Some (session_of_header h) ≡ Some t = is in cc)
noted_first h s t ss rest false is = inr (let both : Some s ≡ Some t = is in cc)

noted_later : (h : Header) (s t : Session) (ss rest : List Session) (k : ℕ) (b : Bool) →
    slice_get (if b then session_of_header h ∷ ss else s ∷ rest) (suc k) ≡ Some t → (slice_get ss k ≡ Some t) ⊎ (slice_get rest k ≡ Some t)
noted_later h s t ss rest k true is = inl is
noted_later h s t ss rest k false is = inr is

-- each session after a prepare is its own or one from before, at the same place
pub noted_get : (h : Header) (ss : List Session) (k : ℕ) (t : Session)
    → slice_get (noted h ss) k ≡ Some t → (t ≡ session_of_header h) ⊎ (slice_get ss k ≡ Some t)
noted_get h [] zero t is = inl (let both : Some (session_of_header h) ≡ Some t = is in cc)
noted_get h [] (suc k) t is = absurd (let none : None ≡ Some t = is in cc)
noted_get h (s ∷ ss) zero t is =
    elim (noted_first h s t ss (noted h ss) (s.client == h.client) is) [ inl new ↦ inl new | inr old ↦ inr (ap Some old) ]
noted_get h (s ∷ ss) (suc k) t is = elim (noted_later h s t ss (noted h ss) k (s.client == h.client) is) [
  | inl old ↦ inr old
  | inr rest ↦ noted_get h ss k t rest
]

noted_has_case : (h : Header) (s : Session) (ss rest : List Session) (b : Bool)
    → Has rest h.op → Has (if b then session_of_header h ∷ ss else s ∷ rest) h.op
noted_has_case h s ss rest true has = (0, session_of_header h, refl, refl)
noted_has_case h s ss rest false has = (suc has.0, has.1, has.2, has.3)

-- its own session is there
pub noted_has : (h : Header) (ss : List Session) → Has (noted h ss) h.op
noted_has h [] = (0, session_of_header h, refl, refl)
noted_has h (s ∷ ss) = noted_has_case h s ss (noted h ss) (s.client == h.client) (noted_has h ss)

keeps_case : (room : ℕ) (h : Header) (s t : Session) (ss rest : List Session) (k : ℕ) (b : Bool) → (s.client == h.client) ≡ b → MayAsk room h (s ∷ ss) → ((rooms j : ℕ) → MayAsk rooms h ss → slice_get ss j ≡ Some t → (slice_get rest j ≡ Some t) ⊎ (t.op ≤ h.mark)) → slice_get (s ∷ ss) k ≡ Some t
    → (slice_get (if b then session_of_header h ∷ ss else s ∷ rest) k ≡ Some t) ⊎ (t.op ≤ h.mark)
keeps_case room h s t ss rest zero true is (inl here) more at = let one : s ≡ t = (let two : Some s ≡ Some t = at in cc) in
    inr (omega (arith, here.2, ap (λ (w : Session). w.op) one))
keeps_case room h s t ss rest zero true is (inr there) more at = absurd (there.0 (eqb-true s.client h.client is))
keeps_case room h s t ss rest (suc k) true is may more at = inl at
keeps_case room h s t ss rest zero false is may more at = inl at
keeps_case room h s t ss rest (suc k) false is (inl here) more at =
    absurd (let both : true ≡ false = sym (eq-eqb s.client h.client here.0) ∙ is in cc)
keeps_case room h s t ss rest (suc k) false is (inr there) more at = more there.1 k there.3 at

-- who asks has had the last reply: each session stays, or was answered
pub noted_keeps : (room : ℕ) (h : Header) (ss : List Session) (k : ℕ) (t : Session)
    → MayAsk room h ss → slice_get ss k ≡ Some t → (slice_get (noted h ss) k ≡ Some t) ⊎ (t.op ≤ h.mark)
noted_keeps room h [] k t may at = absurd (let none : None ≡ Some t = at in cc)
noted_keeps room h (s ∷ ss) k t may at =
    keeps_case room h s t ss (noted h ss) k (s.client == h.client) refl may (λ rooms j asks there. noted_keeps rooms h ss j t asks there) at

noted_one_case : (h : Header) (s t u : Session) (ss rest : List Session) (j k : ℕ) (b : Bool) → ((i : ℕ) (w : Session)
    → slice_get (s ∷ ss) i ≡ Some w → w.op < h.op) → ((a c : ℕ) → slice_get rest a ≡ Some t → slice_get rest c ≡ Some u → a ≡ c)
    → slice_get (if b then session_of_header h ∷ ss else s ∷ rest) j ≡ Some t
    → slice_get (if b then session_of_header h ∷ ss else s ∷ rest) k ≡ Some u → t.op ≡ h.op → u.op ≡ h.op → j ≡ k
noted_one_case h s t u ss rest zero zero b below same one two t_op u_op = refl
noted_one_case h s t u ss rest zero (suc k) true below same one two t_op u_op = absurd (omega (arith, below (suc k) u two))
noted_one_case h s t u ss rest (suc j) zero true below same one two t_op u_op = absurd (omega (arith, below (suc j) t one))
noted_one_case h s t u ss rest (suc j) (suc k) true below same one two t_op u_op = absurd (omega (arith, below (suc j) t one))
noted_one_case h s t u ss rest zero (suc k) false below same one two t_op u_op = absurd (omega (arith, below 0 t one))
noted_one_case h s t u ss rest (suc j) zero false below same one two t_op u_op = absurd (omega (arith, below 0 u two))
noted_one_case h s t u ss rest (suc j) (suc k) false below same one two t_op u_op = ap suc (same j k one two)

-- only one place has the new op
pub noted_one : (h : Header) (ss : List Session) (j k : ℕ) (t u : Session) → ((i : ℕ) (w : Session) → slice_get ss i ≡ Some w → w.op < h.op)
    → slice_get (noted h ss) j ≡ Some t → slice_get (noted h ss) k ≡ Some u → t.op ≡ h.op → u.op ≡ h.op → j ≡ k
noted_one h [] zero zero t u below one two t_op u_op = refl
noted_one h [] zero (suc k) t u below one two t_op u_op = absurd (let none : None ≡ Some u = two in cc)
noted_one h [] (suc j) k t u below one two t_op u_op = absurd (let none : None ≡ Some t = one in cc)
noted_one h (s ∷ ss) j k t u below one two t_op u_op = noted_one_case h s t u ss (noted h ss) j k (s.client == h.client)
    below (λ a c first second. noted_one h ss a c t u (λ i w at. below (suc i) w at) first second t_op u_op) one two t_op u_op

-- ---- what a chain keeps of the sessions

pub tracks_noted : (room low later high : ℕ) (h : Header) (ss : List Session)
    → Tracks low high ss → MayAsk room h ss → h.op ≡ high + 1 → low ≤ later → h.mark ≤ later → Tracks later (high + 1) (noted h ss)
tracks_noted room low later high h ss tracks may op le mark = record { below = below; apart = apart; pending = pending }
  where
    old : (k : ℕ) (s : Session) → slice_get ss k ≡ Some s → s.op < h.op
    old k s at = omega (arith, tracks.below k s at)

    below : (k : ℕ) (s : Session) → slice_get (noted h ss) k ≡ Some s → s.op ≤ high + 1
    below k s at = elim (noted_get h ss k s at) [
      | inl new ↦ omega (arith, ap (λ (t : Session). t.op) new)
      | inr before ↦ omega (arith, old k s before)
    ]

    apart : (j k : ℕ) (s t : Session) → slice_get (noted h ss) j ≡ Some s → slice_get (noted h ss) k ≡ Some t → s.op ≡ t.op → j ≡ k
    apart j k s t one two same = elim (noted_get h ss j s one) [
      | inl new ↦ noted_one h ss j k s t old one two (ap (λ (w : Session). w.op) new) (sym same ∙ ap (λ (w : Session). w.op) new)
      | inr before ↦ elim (noted_get h ss k t two) [
        | inl new ↦ noted_one h ss j k s t old one two (same ∙ ap (λ (w : Session). w.op) new) (ap (λ (w : Session). w.op) new)
        | inr other ↦ tracks.apart j k s t before other same
      ]
    ]

    pending : (o : ℕ) → later < o → o ≤ high + 1 → Has (noted h ss) o
    pending o above to = elim (cases_eq o (high + 1)) [
      | inl here ↦ rw (← (op ∙ sym here)) (noted_has h ss)
      | inr lower ↦ let has = tracks.pending o (omega arith) (omega arith) in elim (noted_keeps room h ss has.0 has.1 may has.2) [
        | inl stays ↦ (has.0, has.1, stays, has.3)
        | inr answered ↦ absurd (omega (arith, has.3))
      ]
    ]

pub mark_to_last : (clients op parent mark : ℕ) (ss : List Session) (ps : List Message)
    → Chain clients op parent mark ss ps → mark ≤ last_mark mark ps
mark_to_last clients op parent mark ss [] chain = omega arith
mark_to_last clients op parent mark ss (p ∷ ps) chain =
    omega (arith, chain.0.mark_from, mark_to_last clients (op + 1) p.header.checksum p.header.mark (noted p.header ss) ps chain.1)

pub tracks_chain : (clients high parent mark low later : ℕ) (ss : List Session) (ps : List Message) → Tracks low high ss → Chain
    clients (high + 1) parent mark ss ps → low ≤ later → last_mark mark ps ≤ later → Tracks later (high + length ps) (sessions_after ss ps)
tracks_chain clients high parent mark low later ss [] tracks chain le last = let same : high ≡ high + 0 = omega arith in
    subst (λ (n : ℕ). Tracks later n ss)
    same (record { below = tracks.below; apart = tracks.apart; pending = λ o above to. tracks.pending o (omega arith) to })
tracks_chain clients high parent mark low later ss (p ∷ ps) tracks chain le last =
    let same : high + 1 + length ps ≡ high + suc (length ps) = omega arith in let marks : p.header.mark ≤ last_mark p.header.mark ps =
    mark_to_last clients (high + 1 + 1) p.header.checksum p.header.mark (noted p.header ss) ps chain.1 in
    subst (λ (n : ℕ). Tracks later n (sessions_after (noted p.header ss) ps)) same
    (tracks_chain clients (high + 1) p.header.checksum p.header.mark later later (noted p.header ss)
    ps (tracks_noted clients low later high p.header ss tracks chain.0.asks chain.0.op_is le (omega arith)) chain.1 (omega arith) last)

pub chain_take : (n clients op parent mark : ℕ) (ss : List Session) (ps : List Message)
    → Chain clients op parent mark ss ps → Chain clients op parent mark ss (take n ps)
chain_take zero clients op parent mark ss ps chain = tt
chain_take (suc n) clients op parent mark ss [] chain = tt
chain_take (suc n) clients op parent mark ss (x ∷ ps) chain =
    (chain.0, chain_take n clients (op + 1) x.header.checksum x.header.mark (noted x.header ss) ps chain.1)

pub last_mark-take : (n clients op parent mark : ℕ) (ss : List Session) (ps : List Message)
    → Chain clients op parent mark ss ps → last_mark mark (take n ps) ≤ last_mark mark ps
last_mark-take zero clients op parent mark ss ps chain = mark_to_last clients op parent mark ss ps chain
last_mark-take (suc n) clients op parent mark ss [] chain = omega arith
last_mark-take (suc n) clients op parent mark ss (x ∷ ps) chain =
    last_mark-take n clients (op + 1) x.header.checksum x.header.mark (noted x.header ss) ps chain.1

-- a session after these prepares is one from before, or that of one of them
pub after_get : (ss : List Session) (ps : List Message) (k : ℕ) (t : Session)
    → slice_get (sessions_after ss ps) k ≡ Some t → (slice_get ss k ≡ Some t) ⊎ ((p : Message) × In p ps × (t ≡ session_of_header p.header))
after_get ss [] k t is = inl is
after_get ss (p ∷ ps) k t is = elim (after_get (noted p.header ss) ps k t is) [
  | inl old ↦ elim (noted_get p.header ss k t old) [ inl new ↦ inr (p, inl refl, new) | inr before ↦ inl before ]
  | inr new ↦ inr (new.0, inr new.1, new.2)
]
