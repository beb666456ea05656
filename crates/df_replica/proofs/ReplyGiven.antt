-- What the maker says of the next reply obeys the rules of a reply, and its place is one of the layout.
use Rattle.std.{proofs.{Common.{◌≡◌, ◌∙◌, ℕ, ◌+◌, ◌^◌, ◌<◌, true, List, length, Some, IsSome, refl, sym, ap, subst, arith, rules}, lemmas.Bool.Decides.{nat_tests}}, specs.{Prelude.{nat_lt}, List.{slice_get}}}
use Rattle.{df_layout.specs.declared.places.Zone.TheVariants.{ClientReplies}, df_model.specs.Making.{client_of, request_of}}
use Rattle.df_format.{specs.{declared.header.Header.{Header}, declared.kind.Kind.TheVariants.{Reply as AsReply}, Making.{blank_header, for_body}, Own.{own_place}, Rules.{ObeysRules}, Spelling.{IsCheck}}, proofs.Laws.{given_obeys, of_second}}
use Rattle.df_opening.{proofs.Laws.{boot_made}, specs.Below.{IsState, State}}
use Rattle.df_sessions.specs.declared.session.Session as told
use Rattle.df_sessions.{specs.{Requests.{session_of}, Table.{IsSessionTable}}, proofs.Laws.{session_at}}
use Rattle.df_replica.{specs.Replying.{MayReplyNext, first_check, place_waiting, reply_given, session_waiting}, proofs.ReplyTests.{client_named, place_inside, waiting_told}}

-- the header of these parts, over a blank one
pub header_is : (s : State) (blank : Header) (parent : List ℕ) (client place sequence boot : ℕ) (r : told.Session)
    → blank ≡ blank_header AsReply s.file.cluster → client ≡ r.client → parent ≡ first_check s.waiting
    → place ≡ place_waiting s → slice_get s.table.sessions place ≡ Some r → sequence ≡ s.fields.sequence → boot ≡ s.fields.boot
    → record blank { parent = parent; client = client; op = s.replies + 1; request = r.request; mark = s.head; checkpoint = sequence; slot = place; version = 2; boot = boot }
    ≡ reply_given s
header_is s blank parent client place sequence boot r blank_is client_here parent_is place_is at sequence_is boot_is =
    let there : session_waiting s ≡ Some (session_of r) =
    session_at s.table.sessions (place_waiting s) r (subst (λ (k : ℕ). slice_get s.table.sessions k ≡ Some r) place_is at) in
    let client_is : client ≡ client_of (session_waiting s) = client_here ∙ ap client_of (sym there) in
    let request_is : r.request ≡ request_of (session_waiting s) = ap request_of (sym there) in λ i. record (blank_is i) {
      parent = parent_is i;
      client = client_is i;
      op = s.replies + 1;
      request = request_is i;
      mark = s.head;
      checkpoint = sequence_is i;
      slot = place_is i;
      version = 2;
      boot = boot_is i;
    }

module _ (s : State) (is : IsState s) (table : IsSessionTable s.table) (waits : s.replies < s.head) where
  pub place_small : place_waiting s < 64
  place_small = omega (arith, place_inside s is waits, table.within, table.most)

  place_of_layout : place_waiting s < s.file.layout.clients
  place_of_layout = omega (arith, place_inside s is waits, table.within, is.places)

  pub given_own : IsSome (own_place s.file.layout ClientReplies (reply_given s))
  unfolding own_place
  given_own = let inside : nat_lt (place_waiting s) s.file.layout.clients ≡ true =
      grind (arith, nat_tests, place_of_layout) in rw inside (search rules)

  pub given_rules : (body : List ℕ) → MayReplyNext s (length body)
      → IsCheck (first_check s.waiting) → client_of (session_waiting s) < 2 ^ 128 → ObeysRules (for_body (reply_given s) body)
  given_rules body may parent small = let there = waiting_told s is waits in
      let client : client_of (session_waiting s) ≡ there.0.client = ap client_of there.2 in
      let request : request_of (session_waiting s) ≡ there.0.request = ap request_of there.2 in
      let named = client_named s.table.sessions (place_waiting s) there.0 table.named there.1 in
      let most = is.requests (place_waiting s) there.0 there.1 in let asked = is.asked (place_waiting s) (session_of there.0) there.2 in
      given_obeys s.file.cluster (s.file.named, is.cluster) (reply_given s) body AsReply (of_second AsReply
      (reply_given s) refl (boot_made s (is.booted may.live), is.second.rules.boot) (record { none_first = refl; none_last = refl })) (
        record {
          parent = parent;
          client = (omega (arith, client, named), small);
          op = (omega arith, omega (arith, is.head_to, waits));
          request = (omega (arith, request, asked), omega (arith, request, most));
          mark = (omega (arith, waits), is.head_to);
          checkpoint = is.sequence;
          slot = omega (arith, place_small);
        },
        omega (arith, may.fits, s.file.layout.message_size_within.1),
      )
