-- Which sessions are answered in the theory, where those of the table are; and which replies are found stored.
use Rattle.std.{proofs.{Common.{◌≡◌, ◌↔◌, inl, inr, ℕ, ◌<◌, ◌≤◌, List, length, Option, Some, None, refl, sym, ◌∙◌, ap, subst, arith}, lemmas.Bool.{cases_lt, cond-true, cond-false, le-leb, lt-leb}, lemmas.List.{length-map}, lemmas.Option.{slice_get_cases, slice_get_within}}, specs.{Prelude.{Result, Ok, Err, IfSome}, List.{slice_get}}}
use Rattle.{df_layout.specs.declared.damage.Class.{Class}, df_units.specs.Meaning.{content_of, header_of}}
use Rattle.df_format.specs.{Copies.{content_with}, declared.header.Header.{Header}, declared.superblock.SuperFields.{SuperFields}}
use Rattle.df_sessions.{specs.{declared.session.Session.{Session}, Requests.{session_of, sessions_of}}, proofs.Laws.{session_at}}
use Rattle.df_theory.specs.Units
use Rattle.df_theory.specs.{Units.{AnyUnit, BlockUnit, Content, CopyUnit, HeaderUnit, Message, PrepareUnit, ReplyPlace, ReplyUnit}, Holds.{IsNamed}, Opens.{IsAnswered, LacksReply}, Found.{IsStored}, View.{View, sessions}}
use Rattle.df_replies.{specs.{declared.answers.Lacking.{Lacking}, Named.{IsNamedBy}, Shown.{ShowsReplies, ShowsReply}, Answers.{AnsweredTo, AnswersIn, FoundAreStored, HasClass, IsFirstLacking, Lacks, LacksHere, StoredAreFound, stored_by}}, proofs.Scanned.{has_class}}

-- ---- in the theory

-- the content of a superblock names a reply with this header where the superblock does
named : (f : SuperFields) (k : ℕ) (h : Header) (r : Message)
    → r.header ≡ header_of h → IsNamedBy f k h → IsNamed (content_of (content_with f)) k r
named f k h r is by = record {
  old = λ less. by.old (rw is at less) ∙ sym (ap (λ (x : Units.Header). x.checksum) is);
  new = λ from. ap (λ (x : Units.Header). x.boot) is ∙ by.new (rw is at from);
}

named_by : (f : SuperFields) (k : ℕ) (h : Header) (r : Message)
    → r.header ≡ header_of h → IsNamed (content_of (content_with f)) k r → IsNamedBy f k h
named_by f k h r is by = record {
  old = λ less. by.old (rw is less) ∙ ap (λ (x : Units.Header). x.checksum) is;
  new = λ from. sym (ap (λ (x : Units.Header). x.boot) is) ∙ by.new (rw is from);
}

answers_shown : (f : SuperFields) (image : Units.Units) (k : ℕ) (s : Session) (reply : Result Header Class)
    → ShowsReply (image (ReplyPlace k)) reply → AnswersIn f k s reply ↔ IsAnswered image (content_of (content_with f)) k (session_of s)
answers_shown f image k s (Ok h) (q, is, same) = (
  λ of. (
    q,
    is,
    record { client = ap (λ (x : Units.Header). x.client) same ∙ of.0.client; request = ap (λ (x : Units.Header). x.request) same ∙ of.0.request; op = ap (λ (x : Units.Header). x.op) same ∙ of.0.op },
    named f k h q same of.1,
  ),
  λ there. let both : Some (ReplyUnit there.0) ≡ Some (ReplyUnit q) = sym there.1 ∙ is in let one : there.0 ≡ q = cc in
      let header : there.0.header ≡ header_of h = ap (λ (m : Message). m.header) one ∙ same in (
        record { client = sym (ap (λ (x : Units.Header). x.client) header) ∙ there.2.client; request = sym (ap (λ (x : Units.Header). x.request) header) ∙ there.2.request; op = sym (ap (λ (x : Units.Header). x.op) header) ∙ there.2.op },
        named_by f k h there.0 header there.3,
      ),
)
answers_shown f image k s (Err class) none =
    (λ no. absurd no, λ there. let both : None ≡ Some (ReplyUnit there.0) = sym none ∙ there.1 in absurd (cc))

-- a session of the theory's list is one of the table
session_there : (ss : List Session) (k : ℕ) (s : Units.Session)
    → slice_get (sessions_of ss) k ≡ Some s → (t : Session) × (slice_get ss k ≡ Some t) × (s ≡ session_of t)
session_there ss k s at = elim (slice_get_cases ss k).1 [
  | inl there ↦ let both : Some s ≡ Some (session_of there.0) = sym at ∙ session_at ss k there.0 there.2 in
      (there.0, there.2, (let one : s ≡ session_of there.0 = cc in one))
  | inr past ↦ absurd (omega (arith, past.0, slice_get_within (sessions_of ss) k s at, length-map ss session_of))
]

module _ (f : SuperFields)
    (image : Units.Units) (replies : List (Result Header Class)) (ss : List Session) (n : ℕ) (shows : ShowsReplies image replies) where
  abbrev c : Content
  c = content_of (content_with f)

  answered_before : (k : ℕ) → AnsweredTo f ss n replies k
      → (j : ℕ) (s : Units.Session) → j < k → slice_get (sessions_of ss) j ≡ Some s → s.op ≤ n → IsAnswered image c j s
  answered_before k before j s less at stored = let t = session_there ss j s at in let answer = before j t.0 less t.1 (rw t.2 at stored) in
      subst (IsAnswered image c j) (sym t.2) ((answers_shown f image j t.0 answer.0 (shows.each j answer.0 answer.1)).0 answer.2)

  first_lacks : (lacking : Lacking) → IsFirstLacking f ss n replies lacking → LacksReply image c (sessions_of ss) n lacking.place
  first_lacks lacking is = record {
    session = session_of is.session;
    at = session_at ss lacking.place is.session is.at;
    stored = is.stored;
    lacks = λ answered.
        is.lacks ((answers_shown f image lacking.place is.session is.reply (shows.each lacking.place is.reply is.there)).1 answered);
    first = answered_before lacking.place is.first;
  }

  pub lacks_shown : (o : Option Lacking) → LacksHere f ss n replies o → Lacks image c ss n o
  lacks_shown None all = λ k s at stored.
      answered_before (length ss) all k s (omega (arith, slice_get_within (sessions_of ss) k s at, length-map ss session_of)) at stored
  lacks_shown (Some lacking) is = first_lacks lacking is

pub lacking_class : (f : SuperFields) (ss : List Session) (n : ℕ) (replies : List (Result Header Class)) (o : Option Lacking)
    → LacksHere f ss n replies o → IfSome o (HasClass replies)
lacking_class f ss n replies None all = tt
lacking_class f ss n replies (Some lacking) is = has_class replies lacking is.reply is.there is.class

-- ---- the stored replies of a view

stored_yes : (n : ℕ) (s : Units.Session) (r : Message) → s.op ≤ n → stored_by n (Some s) (Some (ReplyUnit r)) ≡ Some r
stored_yes n s r le = cond-true _ _ _ (le-leb s.op n le)

stored_no : (n : ℕ) (s : Units.Session) (x : Option AnyUnit) → n < s.op → stored_by n (Some s) x ≡ None
stored_no n s None less = refl
stored_no n s (Some (ReplyUnit r)) less = cond-false _ _ _ (lt-leb s.op n less)
stored_no n s (Some (CopyUnit c)) less = refl
stored_no n s (Some (HeaderUnit h)) less = refl
stored_no n s (Some (PrepareUnit p)) less = refl
stored_no n s (Some (BlockUnit b)) less = refl

-- what counts as stored belongs to a session that is answered
stored_of : (n : ℕ) (o : Option Units.Session) (x : Option AnyUnit) (r : Message)
    → stored_by n o x ≡ Some r → (s : Units.Session) × (o ≡ Some s) × (s.op ≤ n)
stored_of n None x r is = absurd (cc)
stored_of n (Some s) x r is = elim (cases_lt n s.op) [
  | inl more ↦ let both : None ≡ Some r = sym (stored_no n s x more) ∙ is in absurd (cc)
  | inr less ↦ (s, refl, omega arith)
]

pub stored_found : StoredAreFound
stored_found image v all is = record {
  shown = λ k s at stored. let there = all k s at stored in let same : v.stored k ≡ Some there.0 =
      is k ∙ ap (λ (o : Option Units.Session). stored_by v.replies o (image (ReplyPlace k))) at
      ∙ ap (stored_by v.replies (Some s)) there.1 ∙ stored_yes v.replies s there.0 stored in (there.0, same, there.1, there.2, there.3);
  no_more = λ k r stored. stored_of v.replies (slice_get (sessions v) k) (image (ReplyPlace k)) r (sym (is k) ∙ stored);
}

none_stored : (v : View) (k : ℕ) (o : Option Message) → v.stored k ≡ o → ((r : Message) → v.stored k ≡ Some r → ⊥) → o ≡ None
none_stored v k None is none = refl
none_stored v k (Some r) is none = absurd (none r is)

found_by : (image : Units.Units) (v : View) (k : ℕ) (o : Option Units.Session)
    → slice_get (sessions v) k ≡ o → IsStored image v → v.stored k ≡ stored_by v.replies o (image (ReplyPlace k))
found_by image v k None at is = none_stored v k (v.stored k) refl (λ r stored. let there = is.no_more k r stored in
    let both : None ≡ Some there.0 = sym at ∙ there.1 in cc)
found_by image v k (Some s) at is = elim (cases_lt v.replies s.op) [
  | inl more ↦ none_stored v k (v.stored k) refl (λ r stored. let there = is.no_more k r stored in
      let both : Some s ≡ Some there.0 = sym at ∙ there.1 in let one : s ≡ there.0 = cc in
      omega (arith, more, there.2, ap (λ (x : Units.Session). x.op) one)) ∙ sym (stored_no v.replies s (image (ReplyPlace k)) more)
  | inr less ↦ let le : s.op ≤ v.replies = omega arith in let there = is.shown k s at le in
      there.1 ∙ sym (ap (stored_by v.replies (Some s)) there.2 ∙ stored_yes v.replies s there.0 le)
]

pub found_stored : FoundAreStored
found_stored image v is = (
  λ k s at stored. let there = is.shown k s at stored in (there.0, there.2, there.3, there.4),
  λ k. found_by image v k (slice_get (sessions v) k) refl is,
)
