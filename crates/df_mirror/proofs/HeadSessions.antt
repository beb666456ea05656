-- The sessions at the superblock's head: a table that has as many of them as there are places, noted prepare by prepare.
use Rattle.std.{proofs.{Common.{◌≡◌, ℕ, zero, suc, ◌+◌, ◌-◌, ◌%◌, ◌<◌, ◌≤◌, ◌==◌, true, false, List, [], ◌∷◌, ◌++◌, length, get_or, take, Option, Some, None, IsSome, refl, sym, ◌∙◌, ap, subst, arith, inl, inr, length-take}, lemmas.Bool.{cases_Bool, cases_lt}, lemmas.List.{length-map, take_all}, lemmas.Option.{same_Some}}, specs.{List.{position, slice_get}, Prelude.{is_some}}}
use Rattle.{df_base.proofs.Laws.{none_passes}, df_format.specs.declared.superblock.SuperFields.{SuperFields}}
use Rattle.df_format.specs.declared.header.Header as file
use Rattle.{df_journal.specs.{Scan.{Scan, entry}, Seen.{header_of_seen}, Shows.{TellsRings}}, df_units.specs.Meaning.{header_of}}
use Rattle.df_sessions.{specs.{declared.session.Session.{Session}, Requests.{session_of, sessions_of}, Table.{IsKnownClient, has_client}}, proofs.Laws.{first_place}}
use Rattle.df_theory.{specs.{Opens.{AreKnown}, Sessions.{noted}, Units.{Header, Message, PreparePlace, PrepareUnit, Units}}, proofs.Laws.{sessions-append}}
use Rattle.df_theory.specs.Sessions as theory
use Rattle.df_theory.specs.Units as units
use Rattle.df_mirror.{specs.{declared.superblock.Superblock.{Superblock}, Walks.{HasLater, IsLater, content_of_superblock}}, proofs.{Named.{pin_is}, RingSeen.{prepare_seen}}}

-- a known client takes no further place
known_length : (h : Header) (xs : List Session) (k : ℕ) (d : Session)
    → k < length xs → has_client h.client (get_or xs k d) ≡ true → length (noted h (sessions_of xs)) ≡ length xs
known_length h [] k d within passes = absurd (omega (arith, within))
known_length h (x ∷ xs) zero d within passes = let same : (x.client == h.client) ≡ true = passes in rw same (ap suc (length-map xs session_of))
known_length h (x ∷ xs) (suc k) d within passes = elim (cases_Bool (has_client h.client x)) [
  | inl same ↦ rw same (ap suc (length-map xs session_of))
  | inr other ↦ rw other (ap suc (known_length h xs k d (omega (arith, within)) passes))
]

noted_most : (h : Header) (ss : List units.Session) → length (noted h ss) ≤ length ss + 1
noted_most h [] = omega arith
noted_most h (s ∷ ss) = elim (cases_Bool (s.client == h.client)) [
  | inl same ↦ rw same (omega arith)
  | inr other ↦ rw other (omega (arith, noted_most h ss))
]

-- so it is where a place is left
noted_few : (h : Header) (xs : List Session) (max : ℕ) → length xs ≤ max → IsKnownClient h.client xs → length (noted h (sessions_of xs)) ≤ max
noted_few h xs max fits known = by (position (has_client h.client) xs) refl known
  where
    by : (place : Option ℕ) → position (has_client h.client) xs ≡ place → IsSome place → length (noted h (sessions_of xs)) ≤ max
    by None is some = cc
    by (Some k) is some = let d : Session = record { client = 0; request = 0; op = 0; reply = None } in
        let first = first_place (has_client h.client) xs k d is in omega (arith, known_length h xs k d first.within first.passes, fits)

-- what is noted among the first ones, this many, is among the first ones that are noted, this many, where there is room
noted_front : (n : ℕ) (h : Header) (ss : List units.Session) → length (noted h (take n ss)) ≤ n → noted h (take n ss) ≡ take n (noted h ss)
noted_front zero h ss fits = absurd (omega (arith, fits))
noted_front (suc n) h [] fits = front_one n (theory.session_of_header h)
  where
    front_one : (n : ℕ) (s : units.Session) → s ∷ [] ≡ take (suc n) (s ∷ [])
    front_one zero s = refl
    front_one (suc n) s = refl
noted_front (suc n) h (s ∷ ss) fits = elim (cases_Bool (s.client == h.client)) [
  | inl same ↦ rw same refl
  | inr other ↦ let less : length (s ∷ noted h (take n ss)) ≤ suc n = rw other at fits in
      rw other (ap (λ (l : List units.Session). s ∷ l) (noted_front n h ss (omega (arith, less))))
]

-- and where there is none, an unknown client changes nothing of them
unknown_front : (n : ℕ) (h : Header) (ss : List units.Session) (xs : List Session) (d : Session) → sessions_of xs ≡ take n ss
    → n ≤ length xs → ((k : ℕ) → k < length xs → has_client h.client (get_or xs k d) ≡ false) → take n ss ≡ take n (noted h ss)
unknown_front zero h ss xs d is full none = refl
unknown_front (suc n) h ss [] d is full none = absurd (omega (arith, full))
unknown_front (suc n) h [] (x ∷ xs) d is full none = absurd (let clash : session_of x ∷ sessions_of xs ≡ [] = is in cc)
unknown_front (suc n) h (s ∷ ss) (x ∷ xs) d is full none = let head : session_of x ≡ s = cc in let rest : sessions_of xs ≡ take n ss = cc in
    let other : (s.client == h.client) ≡ false = rw (← head) (none 0 (omega arith)) in rw other (ap (λ (l : List units.Session).
    s ∷ l) (unknown_front n h ss xs d rest (omega (arith, full)) (λ k within. none (suc k) (omega (arith, within)))))

module _ (h : Header) (xs : List Session) (places : ℕ) (ss : List units.Session) (is : sessions_of xs ≡ take places ss) where
  fits : length xs ≤ places
  fits = omega (arith, length-map xs session_of, ap length is, length-take places ss)

  -- a prepare was noted in the table
  noted_in : (new : List Session)
      → length (noted h (sessions_of xs)) ≤ places → sessions_of new ≡ noted h (sessions_of xs) → sessions_of new ≡ take places (noted h ss)
  noted_in new few same = same ∙ ap (noted h) is ∙ noted_front places h ss (rw is at few)

  pub noted_known : (new : List Session)
      → IsKnownClient h.client xs → sessions_of new ≡ noted h (sessions_of xs) → sessions_of new ≡ take places (noted h ss)
  noted_known new known same = noted_in new (noted_few h xs places fits known) same

  pub noted_last : (new : List Session)
      → length xs < places → sessions_of new ≡ noted h (sessions_of xs) → sessions_of new ≡ take places (noted h ss)
  noted_last new room same = noted_in new (omega (arith, noted_most h (sessions_of xs), length-map xs session_of, room)) same

  -- or there was no place
  pub noted_no : places ≤ length xs → position (has_client h.client) xs ≡ None → sessions_of xs ≡ take places (noted h ss)
  noted_no full none = let d : Session = record { client = 0; request = 0; op = 0; reply = None } in
      is ∙ unknown_front places h ss xs d is full (none_passes (has_client h.client) xs d none)

-- a search for a client that found none
pub none_if : (place : Option ℕ) → is_some place ≡ false → place ≡ None
none_if None none = refl
none_if (Some k) none = cc

-- ---- prepare by prepare

known_get : (n : ℕ) (image : Units) (op sum : ℕ) (named : List Message) (i : ℕ) → AreKnown n image op sum named
    → i < length named → (p : Message) × (slice_get named i ≡ Some p) × (image (PreparePlace ((op + i) % n)) ≡ Some (PrepareUnit p))
known_get n image op sum [] i known within = absurd (omega (arith, within))
known_get n image op sum (p ∷ ps) zero known within = let one : op ≡ op + 0 = omega arith in (p, refl, rw one at known.0)
known_get n image op sum (p ∷ ps) (suc i) known within = let rest = known_get n image (op + 1) sum ps i known.2 (omega (arith, within)) in
    let one : op + 1 + i ≡ op + suc i = omega arith in (rest.0, rest.1, rw one at rest.2)

take_one : (ps : List Message) (i : ℕ) (p : Message) → slice_get ps i ≡ Some p → take (suc i) ps ≡ take i ps ++ p ∷ []
take_one [] i p at = absurd (let none : None ≡ Some p = at in cc)
take_one (x ∷ ps) zero p at = cc
take_one (x ∷ ps) (suc i) p at = ap (λ (l : List Message). x ∷ l) (take_one ps i p at)

after_one : (ss : List units.Session) (ps : List Message) (i : ℕ) (p : Message)
    → slice_get ps i ≡ Some p → noted p.header (theory.sessions_after ss (take i ps)) ≡ theory.sessions_after ss (take (suc i) ps)
after_one ss ps i p at = sym (ap (theory.sessions_after ss) (take_one ps i p at) ∙ sessions-append ss (take i ps) (p ∷ []))

-- this many of the prepares that are named were noted in the table
abbrev pub HasNoted : Superblock → Scan → (start now : List Session) → ℕ → Type 0
HasNoted b slots start now i = (image : Units) (named : List Message) → TellsRings b.file.layout image slots → AreKnown b.file.layout.slots
    image (b.content.op + 1) (content_of_superblock b).pin_checksum named → b.content.op + length named ≡ (content_of_superblock b).pin
    → sessions_of now ≡ take b.file.layout.clients (theory.sessions_after (sessions_of start) (take i named))

pub noted_none : (b : Superblock) (slots : Scan) (start : List Session)
    → length start ≤ b.file.layout.clients → HasNoted b slots start start 0
noted_none b slots start few image named tells known count =
    sym (take_all b.file.layout.clients (sessions_of start) (omega (arith, few, length-map start session_of)))

module _ (b : Superblock) (slots : Scan)
    (start now : List Session) (i : ℕ) (has : HasNoted b slots start now i) (below : b.content.op + i < (content_of_superblock b).pin) where
  module _ (image : Units) (named : List Message) (tells : TellsRings b.file.layout image slots) (known : AreKnown b.file.layout.slots image (b.content.op + 1) (content_of_superblock b).pin_checksum named) (count : b.content.op + length named ≡ (content_of_superblock b).pin) where
    at : (p : Message)
        × (slice_get named i ≡ Some p) × (image (PreparePlace ((b.content.op + 1 + i) % b.file.layout.slots)) ≡ Some (PrepareUnit p))
    at = known_get
        b.file.layout.slots image (b.content.op + 1) (content_of_superblock b).pin_checksum named i known (omega (arith, below, count))

    seen : (h : file.Header)
        × (header_of_seen (entry slots ((b.content.op + 1 + i) % b.file.layout.slots)).prepare ≡ Some h) × (at.0.header ≡ header_of h)
    seen = prepare_seen b.file.layout image slots ((b.content.op + 1 + i) % b.file.layout.slots) tells at.0 at.2

  noted_one : (new : List Session) (h : file.Header)
      → header_of_seen (entry slots ((b.content.op + 1 + i) % b.file.layout.slots)).prepare ≡ Some h
      → ((ss : List units.Session) → sessions_of now ≡ take b.file.layout.clients ss
      → sessions_of new ≡ take b.file.layout.clients (noted (header_of h) ss)) → HasNoted b slots start new (suc i)
  noted_one new h is notes image named tells known count = let p = at image named tells known count in
      let it = seen image named tells known count in let both : Some it.0 ≡ Some h = sym it.1 ∙ is in
      let same : it.0 ≡ h = same_Some _ _ both in let header : header_of h ≡ p.0.header = ap header_of (sym same) ∙ sym it.2 in
      let before = theory.sessions_after (sessions_of start) (take i named) in
      notes before (has image named tells known count) ∙ ap (λ (x : Header). take b.file.layout.clients (noted x before)) header
      ∙ ap (take b.file.layout.clients) (after_one (sessions_of start) named i p.0 p.1)

  -- each of them is in the table
  noted_lost : header_of_seen (entry slots ((b.content.op + 1 + i) % b.file.layout.slots)).prepare ≡ None → HasNoted b slots start now (suc i)
  noted_lost none image named tells known count = let it = seen image named tells known count in
      absurd (let both : Some it.0 ≡ None = sym it.1 ∙ none in cc)

-- a turn after the op that was noted last, in the words of the loop
module _ (b : Superblock) (slots : Scan) (start now : List Session) (fields : SuperFields) (same : fields ≡ b.content) (op : ℕ) (low : fields.op ≤ op) (below : op < fields.head) (has : HasNoted b slots start now (op - fields.op)) (slot : ℕ) (is_slot : slot ≡ (op + 1) % b.file.layout.slots) where
  from_op : fields.op ≡ b.content.op
  from_op = ap (λ (f : SuperFields). f.op) same

  next_slot : slot ≡ (b.content.op + 1 + (op - fields.op)) % b.file.layout.slots
  next_slot = let one : op + 1 ≡ b.content.op + 1 + (op - fields.op) = omega (arith, low, from_op) in
      is_slot ∙ ap (λ (n : ℕ). n % b.file.layout.slots) one

  up_to_pin : b.content.op + (op - fields.op) < (content_of_superblock b).pin
  up_to_pin = omega (arith, low, below, from_op, ap (λ (f : SuperFields). f.head) same, pin_is b)

  one_more : (new : List Session) → HasNoted b slots start new (suc (op - fields.op)) → HasNoted b slots start new (op + 1 - fields.op)
  one_more new is = let more : suc (op - fields.op) ≡ op + 1 - fields.op = omega (arith, low) in
      subst (λ (n : ℕ). HasNoted b slots start new n) more is

  pub noted_next : (new : List Session) (h : file.Header)
      → header_of_seen (entry slots slot).prepare ≡ Some h → (places : ℕ) → places ≡ b.file.layout.clients
      → ((ss : List units.Session) → sessions_of now ≡ take places ss → sessions_of new ≡ take places (noted (header_of h) ss))
      → HasNoted b slots start new (op + 1 - fields.op)
  noted_next new h is places clients notes =
      one_more new (noted_one b slots start now (op - fields.op) has up_to_pin new h (rw next_slot at is) (rw clients at notes))

  pub none_next : header_of_seen (entry slots slot).prepare ≡ None → HasNoted b slots start now (op + 1 - fields.op)
  none_next none = one_more now (noted_lost b slots start now (op - fields.op) has up_to_pin (rw next_slot at none))

pub noted_all : (b : Superblock) (slots : Scan) (start now : List Session) (i : ℕ)
    → b.content.op + i ≡ (content_of_superblock b).pin → HasNoted b slots start now i
    → (image : Units) (named : List Message) → TellsRings b.file.layout image slots → AreKnown b.file.layout.slots
    image (b.content.op + 1) (content_of_superblock b).pin_checksum named → b.content.op + length named ≡ (content_of_superblock b).pin
    → sessions_of now ≡ take b.file.layout.clients (theory.sessions_after (sessions_of start) named)
noted_all b slots start now i end has image named tells known count = has image named tells known count ∙ ap (λ (l : List Message).
    take b.file.layout.clients (theory.sessions_after (sessions_of start) l)) (take_all i named (omega (arith, end, count)))

-- ---- a later prepare of a client

module _ (b : Superblock) (slots : Scan) (slot client : ℕ) (image : Units) (tells : TellsRings b.file.layout image slots) where
  pub later_seen : (p : Message) → image (PreparePlace slot) ≡ Some (PrepareUnit p) → IsLater b client p → (h : file.Header)
      × (header_of_seen (entry slots slot).prepare ≡ Some h) × (h.boot ≡ b.content.boot) × (b.content.head < h.op) × (h.client ≡ client)
  later_seen p shown later = let it = prepare_seen b.file.layout image slots slot tells p shown in
      (it.0, it.1, ap (λ (x : Header). x.boot) (sym it.2) ∙ later.boot, omega (arith, ap (λ (x : Header). x.op) it.2, later.above, pin_is b), ap (λ (x : Header). x.client) (sym it.2) ∙ later.of_client)

-- a slot shows none
abbrev pub NoneLater : Superblock → Scan → (client slot : ℕ) → Type 0
NoneLater b slots client slot = (image : Units) (p : Message)
    → TellsRings b.file.layout image slots → image (PreparePlace slot) ≡ Some (PrepareUnit p) → IsLater b client p → ⊥

pub none_later : (b : Superblock) (slots : Scan) (client : ℕ) → ((k : ℕ) → k < b.file.layout.slots → NoneLater b slots client k)
    → (image : Units) → TellsRings b.file.layout image slots → HasLater b image client → ⊥
none_later b slots client none image tells later = elim (cases_lt later.0 b.file.layout.slots) [
  | inl within ↦ none later.0 within image later.1 tells later.2 later.3
  | inr past ↦ absurd (let both : None ≡ Some (PrepareUnit
      later.1) = sym (tells.shows.no_prepare later.0 (omega (arith, past, tells.table.size))) ∙ later.2 in cc)
]
