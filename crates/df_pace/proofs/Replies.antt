-- What is read at the places of the replies, and the table of sessions, after a prepare or a reply more.
use Rattle.std.{proofs.Common.{◌≡◌, ℕ, zero, suc, ◌+◌, ◌<◌, ◌==◌, nat_lt, Bool, true, false, if◌then◌else◌, List, [], ◌∷◌, ◌++◌, drop, map, length, Option, Some, None, Result, Ok, Err, refl, ◌∙◌, ap, arith, eq-eqb}, specs.List.{range_with_len, slice_get}}
use Rattle.{df_layout.specs.declared.damage.Class.{Class, TheVariants.{Stale}}, df_pace.proofs.Told.{plain, plainly}}
use Rattle.df_theory.{specs.{Units.{AnyUnit, BlockUnit, CopyUnit, Header, HeaderUnit, Message, PrepareUnit, ReplyPlace, ReplyUnit, Session, or_else}, Sessions.{noted, session_of_header, sessions_after}, Next.{kept}}, proofs.Laws.{sessions-append}}
use Rattle.df_model.specs.{Work.{Request}, Memory.{Memory, stored_sum}, Making.{first_of, group_of, prepare_in, prepares_in}, Supply.{class_or, given_if, group_puts, is_sum, reply_given}}

-- ---- the table of sessions, by sessions

abbrev pub put_session : Session → List Session → List Session
put_session s [] = s ∷ []
put_session s (x ∷ xs) = if x.client == s.client then s ∷ xs else x ∷ put_session s xs

noted_is : (h : Header) (ss : List Session) → noted h ss ≡ put_session (session_of_header h) ss
noted_is h [] = refl
noted_is h (s ∷ ss) = ap (λ (rest : List Session). if s.client == h.client then session_of_header h ∷ ss else s ∷ rest) (noted_is h ss)

pub sessions_more : (ss : List Session) (ps : List Message) (p : Message)
    → sessions_after ss (ps ++ p ∷ []) ≡ put_session (session_of_header p.header) (sessions_after ss ps)
sessions_more ss ps p = sessions-append ss ps (p ∷ []) ∙ noted_is p.header (sessions_after ss ps)

-- after requests, made prepares of the ops from this one on
abbrev pub asked_all : (op : ℕ) → List Request → List Session → List Session
asked_all op [] ss = ss
asked_all op (r ∷ rs) ss = asked_all (op + 1) rs (put_session (record { client = r.client; request = r.request; op = op }) ss)

pub sessions_all : (m : Memory) (first last op parent : ℕ) (rs : List Request) (sums : List ℕ) (ss : List Session)
    → sessions_after ss (prepares_in m first last op parent rs sums) ≡ asked_all op rs ss
sessions_all m first last op parent [] sums ss = refl
sessions_all m first last op parent (r ∷ rs) sums ss = let h = (prepare_in m first last op parent (first_of sums) r).header in
    sessions_all m first last (op + 1) (first_of sums) rs (drop 1 sums) (noted h ss) ∙ ap (asked_all (op + 1) rs) (noted_is h ss)

pub sessions_group : (m : Memory) (sums : List ℕ) (ss : List Session) (ps : List Message)
    → sessions_after ss (ps ++ group_of m sums) ≡ asked_all (m.head + 1) m.staged (sessions_after ss ps)
sessions_group m sums ss ps = sessions-append ss ps (group_of m sums)
    ∙ sessions_all m (m.head + 1) (m.head + length m.staged) (m.head + 1) m.head_checksum m.staged sums (sessions_after ss ps)

-- ---- reads of replies

-- no prepare stands at a place of theirs
pub puts_aside : (n : ℕ) (ps : List Message) (k : ℕ) → group_puts n ps (ReplyPlace k) ≡ None
puts_aside n [] k = refl
puts_aside n (p ∷ ps) k = ap (λ (o : Option AnyUnit). or_else o None) (puts_aside n ps k)

-- what is shown stays, and isn't known any more
abbrev gone : Result Message Class → Result Message Class
gone (Ok r) = Err Stale
gone (Err class) = Err class

abbrev pub kept_read : Option Session → ℕ → Result Message Class → Result Message Class
kept_read None op old = gone old
kept_read (Some s) op old = if nat_lt op s.op then gone old else old

given_gone : (b : Bool) (r : Message) → Err Stale ≡ gone (plainly (given_if b r Stale))
given_gone true r = refl
given_gone false r = refl

read_gone : (known : Option ℕ) (u : Option AnyUnit) (d : Class)
    → plainly (reply_given None u (class_or u d)) ≡ gone (plainly (reply_given known u (class_or u d)))
read_gone known None d = refl
read_gone known (Some (CopyUnit x)) d = refl
read_gone known (Some (HeaderUnit x)) d = refl
read_gone known (Some (PrepareUnit x)) d = refl
read_gone known (Some (ReplyUnit r)) d = given_gone (is_sum known r.header.checksum) r
read_gone known (Some (BlockUnit x)) d = refl

read_kept_case : (b : Bool) (stored : Option Message) (u : Option AnyUnit) (d : Class)
    → plainly (reply_given (stored_sum (if b then None else stored)) u (class_or u d)) ≡ (if b
    then gone (plainly (reply_given (stored_sum stored) u (class_or u d))) else plainly (reply_given (stored_sum stored) u (class_or u d)))
read_kept_case true stored u d = read_gone (stored_sum stored) u d
read_kept_case false stored u d = refl

pub read_kept : (o : Option Session) (op : ℕ) (stored : Option Message) (u : Option AnyUnit) (d : Class) → plainly (reply_given
    (stored_sum (kept o op stored)) u (class_or u d)) ≡ kept_read o op (plainly (reply_given (stored_sum stored) u (class_or u d)))
read_kept None op stored u d = read_gone (stored_sum stored) u d
read_kept (Some s) op stored u d = read_kept_case (nat_lt op s.op) stored u d

-- a reply that was just written
pub read_new : (b c : Bool) → c ≡ b → (r : Message) (stored : Option Message) (u : Option AnyUnit) (d : Class) → let there =
    or_else (if c then Some (ReplyUnit r) else None) u in
    plainly (reply_given (stored_sum (if b then Some r else stored)) there (class_or there d))
    ≡ (if b then Ok (plain r) else plainly (reply_given (stored_sum stored) u (class_or u d)))
read_new true true same r stored u d = ap (λ (e : Bool). plainly (given_if e r Stale)) (eq-eqb r.header.checksum r.header.checksum refl)
read_new true false same r stored u d = absurd (cc)
read_new false true same r stored u d = absurd (cc)
read_new false false same r stored u d = refl

pub get_mapped : (f : ℕ → Option ℕ) (s n k j : ℕ) → k < n → j ≡ s + k → slice_get (map f (range_with_len s n)) k ≡ Some (f j)
get_mapped f s zero k j less is = absurd (omega arith)
get_mapped f s (suc n) zero j less is = let same : s ≡ j = omega arith in ap (λ (i : ℕ). Some (f i)) same
get_mapped f s (suc n) (suc k) j less is = get_mapped f (s + 1) n k j (omega arith) (omega arith)
