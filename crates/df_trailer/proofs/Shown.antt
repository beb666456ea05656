-- A window of a text that an item more is put into.
use Rattle.std.{proofs.{Common.{◌≡◌, ℕ, zero, suc, ◌+◌, ◌-◌, ◌*◌, ◌<◌, ◌≤◌, Option, Some, None, List, [], ◌∷◌, ◌++◌, length, take, drop, length-drop, get_or, subst, append_assoc, append-nil, refl, sym, ap, ◌∙◌, arith, inl, inr, length-append}, lemmas.Bool.{cases_lt}, lemmas.List.{get_or_append_left, get_or-append-add, ext_get_or, get_or-drop, get_or-take, length-take-le, take_all, take-append-le, take_more, map-append}}, specs.{Prelude.{min, slice_index}, Int.{bit_at}}}
use Rattle.{df_base.{specs.Fields.{spelled}, proofs.Laws.{length-spelled}}, df_theory.specs.Units.{Session}}
use Rattle.df_sessions.specs.declared.session.Session as table
use Rattle.df_trailer.{specs.{Rooms.{trailer_session}, Spelling.{listed, spell_checks, spell_sessions}, Writing.{IsPieceShown, captured_bits, captured_blocks, piece_of, sessions_of}}, proofs.{BitBytes.{bit_for, number_bit, past_end}, Sessions.{so_sessions}, Blocks.{length_listed}, Words.{at_listed}}}

pub shown_more : (text item room new : List ℕ) (from at : ℕ) → length text ≡ at → length new ≡ length room
    → ((k : ℕ) → from + k < at → slice_index new k ≡ slice_index room k)
    → ((k j : ℕ) → j < length item → from + k ≡ at + j → k < length room → slice_index new k ≡ slice_index item j)
    → IsPieceShown text from room → IsPieceShown (text ++ item) from new
shown_more text item room new from at size same before here were i inside within = let all = length-append text item in
    elim (cases_lt (from + i) at) [
      | inl old ↦ before i old ∙ were i (omega arith) (omega arith) ∙ sym (get_or_append_left text item 0 (from + i) (omega arith))
      | inr late ↦ let j : ℕ = from + i - at in let there : length text + j ≡ from + i = omega arith in
          here i j (omega arith) (omega arith) (omega arith)
          ∙ sym (get_or-append-add text item j 0) ∙ ap (λ (m : ℕ). slice_index (text ++ item) m) there
    ]

pub shown_nothing : (from : ℕ) (room : List ℕ) → IsPieceShown [] from room
shown_nothing from room i inside within = absurd (omega arith)

pub shown_all : (from : ℕ) (room a b : List ℕ) → a ≡ b → IsPieceShown a from room → IsPieceShown b from room
shown_all from room a b same are = subst (λ (text : List ℕ). IsPieceShown text from room) same are

-- ---- sessions

sessions_append : (ss ts : List Session) → spell_sessions (ss ++ ts) ≡ spell_sessions ss ++ spell_sessions ts
sessions_append [] ts = refl
sessions_append (s ∷ ss) ts = let others = sessions_append ss ts in rw others (simp append_assoc refl)

pub length_of : (ss : List table.Session) → length (sessions_of ss) ≡ length ss
length_of [] = refl
length_of (s ∷ ss) = ap suc (length_of ss)

-- one session more
pub sessions_more : (text : List ℕ) (ss : List table.Session) (i : ℕ) (d : table.Session) → i < length ss
    → (text ++ spell_sessions (sessions_of (take i ss)))
    ++ spell_sessions (trailer_session (get_or ss i d) ∷ []) ≡ text ++ spell_sessions (sessions_of (take (i + 1) ss))
sessions_more text ss i d within = let last : List Session = trailer_session (get_or ss i d) ∷ [] in
    let front : List Session = sessions_of (take i ss) in
    let more : sessions_of (take (i + 1) ss) ≡ front ++ last = ap (λ (a : List table.Session). sessions_of a) (take_more ss i d within)
    ∙ map-append trailer_session (take i ss) (get_or ss i d ∷ []) in append_assoc text (spell_sessions front) (spell_sessions last)
    ∙ sym (ap (λ (xs : List ℕ). text ++ xs) (ap (λ (a : List Session). spell_sessions a) more ∙ sessions_append front last))

pub size_before : (text : List ℕ) (ss : List table.Session) (i start : ℕ)
    → length text ≡ start → i ≤ length ss → length (text ++ spell_sessions (sessions_of (take i ss))) ≡ start + 32 * i
size_before text ss i start size within = let a = length-append text (spell_sessions (sessions_of (take i ss))) in
    let b = so_sessions (sessions_of (take i ss)) in let c = length_of (take i ss) in let d = length-take-le i ss within in
    omega (arith, b.size)

pub one_session : (text : List ℕ) (s : Session)
    → ((text ++ spelled 16 s.client) ++ spelled 8 s.request) ++ spelled 8 s.op ≡ text ++ spell_sessions (s ∷ [])
one_session text s = simp (append_assoc, append-nil) refl

-- ---- checksums

checks_append : (a b : List (Option ℕ)) → spell_checks (a ++ b) ≡ spell_checks a ++ spell_checks b
checks_append [] b = refl
checks_append (None ∷ a) b = checks_append a b
checks_append (Some c ∷ a) b = let others = checks_append a b in rw others (sym (append_assoc (spelled 16 c) (spell_checks a) (spell_checks b)))

pub listed_more : (f : ℕ → Option ℕ) (n : ℕ) → listed f (n + 1) ≡ listed f n ++ f n ∷ []
listed_more f n = ap (λ (k : ℕ). listed f k) (let up : n + 1 ≡ suc n = omega arith in up) ∙ next f n
  where
    next : (f : ℕ → Option ℕ) (n : ℕ) → listed f (suc n) ≡ listed f n ++ f n ∷ []
    next f zero = refl
    next f (suc n) = ap (λ (bs : List (Option ℕ)). f 0 ∷ bs) (next (λ k. f (suc k)) n)

-- the checksum of one block more
pub checks_more : (f : ℕ → Option ℕ) (n : ℕ)
    → spell_checks (captured_blocks f (n + 1)) ≡ spell_checks (captured_blocks f n) ++ spell_checks (f (n + 1) ∷ [])
checks_more f n = ap (λ (bs : List (Option ℕ)). spell_checks bs) (listed_more (λ place. f (suc place)) n)
    ∙ checks_append (captured_blocks f n) (f (suc n) ∷ [])
    ∙ ap (λ (a : ℕ). spell_checks (captured_blocks f n) ++ spell_checks (f a ∷ [])) (let up : suc n ≡ n + 1 = omega arith in up)

pub grown : (n x : ℕ) (text : List ℕ) (at next : ℕ) → length text ≡ at → next ≡ at + n → length (text ++ spelled n x) ≡ next
grown n x text at next size is = let a = length-append text (spelled n x) in let b = length-spelled n x in omega arith

-- ---- bits

pub captured_bit : (f : ℕ → Option ℕ) (n k : ℕ) → k < n → bit_at (captured_bits f n) k ≡ bit_for (f (k + 1))
captured_bit f n k within = let up : suc k ≡ k + 1 = omega arith in
    number_bit (captured_blocks f n) k ∙ ap (λ (o : Option ℕ). bit_for o) (at_listed (λ place. f (suc place)) n k None within ∙ ap f up)

pub captured_past : (f : ℕ → Option ℕ) (n k : ℕ) → n ≤ k → bit_at (captured_bits f n) k ≡ 0
captured_past f n k past = number_bit (captured_blocks f n) k
    ∙ ap (λ (o : Option ℕ). bit_for o) (past_end (captured_blocks f n) k (omega (arith, length_listed (λ place. f (suc place)) n)))

-- ---- the window

pub window_is : (text room : List ℕ) (from n : ℕ)
    → IsPieceShown text from room → n ≡ min (length text - from) (length room) → take n room ≡ take (length room) (drop from text)
window_is text room from n shown is = let d = length-drop from text in
    let a : length (take n room) ≡ n = length-take-le n room (omega arith) in
    let b : length (take (length room) (drop from text)) ≡ n = size in
    ext_get_or 0 (take n room) (take (length room) (drop from text)) (a ∙ sym b) (λ i within. get_or-take n room i 0 (omega arith)
    ∙ shown i (omega arith) (omega arith) ∙ sym (get_or-take (length room) (drop from text) i 0 (omega arith) ∙ get_or-drop from text i 0))
  where
    size : length (take (length room) (drop from text)) ≡ n
    size = let d = length-drop from text in elim (cases_lt (length room) (length (drop from text))) [
      | inl less ↦ length-take-le (length room) (drop from text) (omega arith) ∙ omega arith
      | inr more ↦ ap (λ (xs : List ℕ). length xs) (take_all (length room) (drop from text) more) ∙ omega arith
    ]

-- the piece, at the front of a buffer that may be longer
pub piece_is : (n m from room index : ℕ) (new rest text : List ℕ)
    → n ≤ length new → take n new ≡ take m (drop from text) → m ≡ room → from ≡ room * index
    → take n (new ++ rest) ≡ piece_of room index text
piece_is n m from room index new rest text within shown size at =
    take-append-le n new rest within ∙ shown ∙ ap (λ (k : ℕ). take k (drop from text)) size ∙ ap (λ (k : ℕ). take room (drop k text)) at

pub same_text : (a b c d e f : List ℕ) → ((((a ++ b) ++ c) ++ d) ++ e) ++ f ≡ a ++ (b ++ (c ++ (d ++ (e ++ f))))
same_text a b c d e f = simp append_assoc refl
