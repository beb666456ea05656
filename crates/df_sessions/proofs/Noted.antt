-- The table is the theory's list of sessions after the same requests, and changes in turn are one list of changes.
use Rattle.std.{proofs.{Common.{◌≡◌, ℕ, zero, suc, inl, inr, List, [], ◌∷◌, ◌++◌, refl, sym, ap, ◌∙◌, length, arith, Some}, lemmas.Bool.{cases_Bool}, lemmas.Option.{slice_get-map}}, specs.{List.{slice_get}, Option.{option_map}}}
use Rattle.df_theory.specs.Units
use Rattle.df_theory.specs.Sessions
use Rattle.df_theory.specs.Sessions.{noted}
use Rattle.df_sessions.specs.{declared.session.Session.{Session}, Table.{has_client, with_request, with_reply_stored}, Changes.{Change, changed, changed_by}, Changes.Change.{Request, Reply}, Requests.{requests_in, requests_of, session_of, sessions_of}}

-- changes, and then one more
pub one_more : (changes : List Change) (change : Change) (sessions : List Session)
    → changed_by (changes ++ change ∷ []) sessions ≡ changed change (changed_by changes sessions)
one_more [] change sessions = refl
one_more (first ∷ changes) change sessions = one_more changes change (changed first sessions)

noted_by : (h : Units.Header) (sessions : List Session)
    → sessions_of (with_request h.client h.request h.op sessions) ≡ noted h (sessions_of sessions)
noted_by h [] = refl
noted_by h (s ∷ sessions) = elim (cases_Bool (has_client h.client s)) [
  | inl same ↦ rw same refl
  | inr other ↦ rw other (ap (λ (all : List Units.Session). session_of s ∷ all) (noted_by h sessions))
]

-- a request is noted
pub request_noted : (s : Units.Session) (h : Units.Header) (sessions : List Session)
    → Sessions.session_of_header h ≡ s → sessions_of (with_request s.client s.request s.op sessions) ≡ noted h (sessions_of sessions)
request_noted s h sessions is =
    ap (λ (x : Units.Session). sessions_of (with_request x.client x.request x.op sessions)) (sym is) ∙ noted_by h sessions

-- a stored reply changes nothing of the list
pub reply_unnoted : (place : ℕ) (reply : List ℕ) (sessions : List Session)
    → sessions_of (with_reply_stored place reply sessions) ≡ sessions_of sessions
reply_unnoted place reply [] = refl
reply_unnoted zero reply (s ∷ sessions) = refl
reply_unnoted (suc place) reply (s ∷ sessions) = ap (λ (all : List Units.Session). session_of s ∷ all) (reply_unnoted place reply sessions)

-- as many, and each in its place
pub length_sessions : (ss : List Session) → length (sessions_of ss) ≡ length ss
length_sessions [] = refl
length_sessions (s ∷ ss) = omega (arith, length_sessions ss)

pub session_at : (ss : List Session) (k : ℕ) (s : Session) → slice_get ss k ≡ Some s → slice_get (sessions_of ss) k ≡ Some (session_of s)
session_at ss k s at = slice_get-map session_of ss k ∙ ap (option_map session_of) at

first_of : {s t : Units.Session} {ss ts : List Units.Session} → s ∷ ss ≡ t ∷ ts → s ≡ t
first_of is = cc

rest_of : {s t : Units.Session} {ss ts : List Units.Session} → s ∷ ss ≡ t ∷ ts → ss ≡ ts
rest_of is = cc

pub table_is_list : (changes : List Change) (sessions : List Session) (ps : List Units.Message)
    → requests_in changes ≡ requests_of ps → sessions_of (changed_by changes sessions) ≡ Sessions.sessions_after (sessions_of sessions) ps
table_is_list [] sessions [] is = refl
table_is_list [] sessions (p ∷ ps) is = absurd (cc)
table_is_list ((Request client request op) ∷ changes) sessions [] is = absurd (cc)
table_is_list ((Request client request op) ∷ changes) sessions (p ∷ ps) is =
    table_is_list changes (with_request client request op sessions) ps (rest_of is)
    ∙ ap (λ (all : List Units.Session). Sessions.sessions_after all ps)
    (request_noted (record { client = client; request = request; op = op }) p.header sessions (sym (first_of is)))
table_is_list ((Reply place reply) ∷ changes) sessions ps is = table_is_list changes (with_reply_stored place reply sessions) ps is
    ∙ ap (λ (all : List Units.Session). Sessions.sessions_after all ps) (reply_unnoted place reply sessions)
