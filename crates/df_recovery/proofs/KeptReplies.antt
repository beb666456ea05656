-- Which replies are stored in the table, session by session.
use Rattle.std.{proofs.{Common.{◌≡◌, inl, inr, ℕ, zero, suc, ◌<◌, ◌≤◌, List, [], ◌∷◌, length, Option, Some, None, refl, sym, ◌∙◌, ap, arith}, lemmas.Bool.{cases_lt, cond-false, cond-true, le-leb, lt-leb}, lemmas.Option.{slice_get_cases, slice_get-map}}, specs.{Prelude.{nat_le, Result, Ok, Err}, List.{slice_get}, Option.{option_map}}}
use Rattle.{df_layout.specs.declared.damage.Class.{Class}, df_format.specs.declared.header.Header.{Header}}
use Rattle.df_sessions.specs.{declared.session.Session.{Session}, Requests.{session_of}, Table.{with_reply_stored}}
use Rattle.df_theory.specs.Units
use Rattle.{df_theory.specs.{Units.{AnyUnit, Message, ReplyPlace, ReplyUnit}, View.{sessions}}, df_units.specs.Meaning.{header_of}}
use Rattle.df_model.specs.Memory
use Rattle.{df_replies.specs.Shown.{ShowsReply}, df_recovery.specs.Finding.{StoredIsKept, reply_in, with_stored}}
use Rattle.df_rooms.specs.State.{reply_sum, stored_sum}

-- ---- one place

pub reply_there : (ss : List Session) (k : ℕ) (check : List ℕ) (s : Session)
    → slice_get ss k ≡ Some s → slice_get (with_reply_stored k check ss) k ≡ Some (record s { reply = Some check })
reply_there [] k check s at = absurd (cc)
reply_there (x ∷ ss) zero check s at = let one : x ≡ s = cc in ap (λ (y : Session). Some (record y { reply = Some check })) one
reply_there (x ∷ ss) (suc k) check s at = reply_there ss k check s at

pub stored_now : (n : ℕ) (s : Session) (h : Header) (reply : Result Header Class)
    → reply ≡ Ok h → s.op ≤ n → with_stored n (Some reply) s ≡ record s { reply = Some h.checksum }
stored_now n s h reply is le = let same : reply_in n s (Some reply) ≡ Some h.checksum =
    ap (λ (r : Result Header Class). reply_in n s (Some r)) is ∙ cond-true (nat_le s.op n) (Some h.checksum) s.reply (le-leb s.op n le) in
    λ i. record s { reply = same i }

-- ---- in the theory

entry_of : (o : Option (Result Header Class)) (x : Option AnyUnit) (r : Message) (n : ℕ) (s : Session)
    → ((reply : Result Header Class) → o ≡ Some reply → ShowsReply x reply) → (o ≡ None → x ≡ None) → x ≡ Some (ReplyUnit r) → s.op ≤ n
    → reply_sum (reply_in n s o) ≡ Some r.header.checksum
entry_of None x r n s each none shown le = absurd (let both : None ≡ Some (ReplyUnit r) = sym (none refl) ∙ shown in cc)
entry_of (Some (Err class)) x r n s each none shown le =
    absurd (let both : None ≡ Some (ReplyUnit r) = sym (each (Err class) refl) ∙ shown in cc)
entry_of (Some (Ok h)) x r n s each none shown le = let there = each (Ok h) refl in
    let both : Some (ReplyUnit r) ≡ Some (ReplyUnit there.0) = sym shown ∙ there.1 in let one : r ≡ there.0 = cc in
    let header : r.header ≡ header_of h = ap (λ (m : Message). m.header) one ∙ there.2 in
    ap reply_sum (cond-true (nat_le s.op n) (Some h.checksum) s.reply (le-leb s.op n le))
    ∙ ap (λ (x : Units.Header). Some x.checksum) (sym header)

not_yet : (o : Option (Result Header Class)) (n : ℕ) (s : Session) → n < s.op → reply_in n s o ≡ s.reply
not_yet None n s more = refl
not_yet (Some (Err class)) n s more = refl
not_yet (Some (Ok h)) n s more = cond-false (nat_le s.op n) (Some h.checksum) s.reply (lt-leb s.op n more)

nothing_stored : (o : Option Message) → ((r : Message) → o ≡ Some r → ⊥) → Memory.stored_sum o ≡ None
nothing_stored None never = refl
nothing_stored (Some r) never = absurd (never r refl)

pub stored_kept : StoredIsKept
stored_kept image v replies before after shows is same none stores k t at = elim (slice_get_cases before k).1 [
  | inr past ↦ absurd (let gone : slice_get after k ≡ None = stores.others k past.0 ∙ past.1 in let both : Some t ≡ None = sym at ∙ gone in cc)
  | inl there ↦ let s = there.0 in
      let here : slice_get after k ≡ Some (with_stored v.replies (slice_get replies k) s) = stores.stored k s there.1 there.2 in
      let both : Some t ≡ Some (with_stored v.replies (slice_get replies k) s) = sym at ∙ here in
      let one : t ≡ with_stored v.replies (slice_get replies k) s = cc in
      let session : slice_get (sessions v) k ≡ Some (session_of s) = ap (λ (ss : List Units.Session). slice_get ss k) (sym same)
      ∙ slice_get-map session_of before k ∙ ap (option_map session_of) there.2 in ap stored_sum one ∙ (elim (cases_lt v.replies s.op) [
        | inl more ↦ ap reply_sum (not_yet (slice_get replies k) v.replies s more ∙ none k s there.2)
            ∙ sym (nothing_stored (v.stored k) (λ r stored.
            let other = is.no_more k r stored in let two : Some other.0 ≡ Some (session_of s) = sym other.1 ∙ session in
            let eq : other.0 ≡ session_of s = cc in omega (arith, more, other.2, ap (λ (x : Units.Session). x.op) eq)))
        | inr less ↦ let le : s.op ≤ v.replies = omega arith in let shown = is.shown k (session_of s) session le in
            entry_of (slice_get replies k) (image (ReplyPlace k)) shown.0 v.replies s (λ reply is_there.
            shows.each k reply is_there) (λ gone. shows.no_more k (past k gone)) shown.2 le ∙ ap Memory.stored_sum (sym shown.1)
      ])
]
  where
    past : (k : ℕ) → slice_get replies k ≡ None → length replies ≤ k
    past k gone = elim (slice_get_cases replies k).1 [
      | inr over ↦ over.0
      | inl there ↦ absurd (let both : None ≡ Some there.0 = sym gone ∙ there.2 in cc)
    ]
