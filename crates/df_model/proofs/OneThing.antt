-- A command leaves the state, or does one of ten things.
use Rattle.std.proofs.Common.{◌≡◌, ℕ, List, [], ◌∷◌, ◌+◌, ◌++◌, length, Option, Some, None, refl, sym, subst}
use Rattle.df_theory.specs.{Units.{Message, Parts}, Next.{appended}, Runs.{Step}, Shape.{Shape}}
use Rattle.df_model.{specs.{Work.{Request, Running, Work}, Memory.{Memory, memory_of}, Refusals.{append_refusals, begin_refusals, block_refusals, first_refusal, flush_refusals, release_refusals, reply_refusals, stage_refusals}, Making.{group_of, needed_of, next_address, place_of_reply, prepare_of, reply_of}, After.{after_check, after_running, after_step_of, begun, outcome, to_check, with_group, with_live, with_prepare, with_reply, with_running, with_staged}, Laws.{DoesAdvance, DoesNothing, UnlessRefused}, Change.{Appends, Begins, Change, Checks, Ends, IsIdle, LetsGo, Lives, One, OneThingLaw, Replies, Staged, Stages, Stays, TourEnds, Writes}, Commands.{Advance, Append, Begin, Command, Flush, Given, ReadBlock, ReadPrepare, ReadReply, Recent, Release, Reply, Scrub, Stage, WriteBlock, after, supplied_sum, supplied_sums, supplied_verdict}}, proofs.Appends.{both_pass}}

refused_idle : {E : Type 0} (o : Option E) (e : E) (steps : List Step) (Done : Type 0)
    → o ≡ Some e → UnlessRefused o steps Done → DoesNothing steps
refused_idle (Some e) x steps Done is does = does
refused_idle None x steps Done is does = absurd (cc)

module _ (sh : Shape) (spell : Parts → List ℕ) (w : Work) (given : Given) where
  abbrev m : Memory
  m = memory_of sh spell w

  -- what is refused leaves the state
  unless : {E A : Type 0} (c : Command) (o : Option E) (u : Work) (a : A) → ((e : E) → o ≡ Some e → IsIdle sh spell w given c)
      → (o ≡ None → Change sh spell w given c u) → Change sh spell w given c (outcome o w u a).0
  unless c (Some e) u a idle change = Stays c (idle e refl)
  unless c None u a idle change = change refl

  one_append : (client request : ℕ) (body : List ℕ) → first_refusal (append_refusals m client request body) ≡ None
      → Change sh spell w given (Append client request body) (with_prepare w (prepare_of m (supplied_sum given) client request body))
  one_append client request body none = let p : Message = prepare_of m (supplied_sum given) client request body in
      let staged = (both_pass m client request body none).1 in
      subst (λ (rs : List Request). Change sh spell w given (Append client request body)
      (record w { view = appended w.view (p ∷ []); waiting = w.waiting ++ p.header.checksum ∷ []; staged = rs })) (sym staged)
      (Appends (Append client request body) (p ∷ []) (One client request body none staged))

  one_step : (o : Option Running) → w.running ≡ o → Change sh spell w given Advance (after_step_of sh spell w (supplied_sum given) o).0
  one_step None at = Stays Advance (λ image steps does. rw at at does)
  one_step (Some r) at = left r.left refl
    where
      left : (l : List ℕ) → r.left ≡ l → Change sh spell w given Advance (after_running sh spell w (supplied_sum given) r l).0
      left [] is = Ends r at is
      left (a ∷ more) is = Writes r a more at is

  one_check : (xs : List (ℕ × ℕ)) → to_check m ≡ xs → Change sh spell w given Scrub (after_check w (supplied_verdict given) xs).0
  one_check [] is = TourEnds is
  one_check (x ∷ more) is = Checks x more is

  one_thing : (c : Command) → Change sh spell w given c (after sh spell w given c).0
  one_thing (Append client request body) = let p = prepare_of m (supplied_sum given) client request body in
      unless (Append client request body) (first_refusal (append_refusals m client request body)) (with_prepare w p)
      (p.header.op, supplied_sum given) (λ e is image steps does. refused_idle _ e steps _ is does) (one_append client request body)
  one_thing (Stage client request body) =
      unless (Stage client request body) (first_refusal (stage_refusals m client request body))
      (with_staged w (record { client = client; request = request; body = body })) (m.head + length m.staged + 1) (λ e is image steps does.
      does) (Stages client request body)
  one_thing Flush = unless Flush (first_refusal (flush_refusals m)) (with_group w (group_of m (supplied_sums given))) (length m.staged)
      (λ e is image steps does. refused_idle _ e steps _ is does) (λ none. Appends Flush (group_of m (supplied_sums given)) (Staged none))
  one_thing (Reply op body) = unless (Reply op body) (first_refusal (reply_refusals m op body)) (with_reply w (place_of_reply m) (reply_of
      m (supplied_sum given) body)) (supplied_sum given) (λ e is image steps does. refused_idle _ e steps _ is does) (Replies op body)
  one_thing (WriteBlock kind body) =
      unless (WriteBlock kind body) (first_refusal (block_refusals m kind body)) (with_live w (next_address m) (Some (supplied_sum given)))
      (next_address m, supplied_sum given) (λ e is image steps does. refused_idle _ e steps _ is does) (Lives kind body)
  one_thing (Release address) = unless {A = Unit {0}} (Release address)
      (first_refusal (release_refusals m address)) (with_live w address None) tt (λ e is image steps does. does) (LetsGo address)
  one_thing (Begin root) = let needed = needed_of spell m root in unless (Begin root) (first_refusal (begin_refusals m needed root))
      (with_running w (Some (begun sh spell w root))) needed (λ e is image steps does. does) (Begins root)
  one_thing Advance = one_step w.running refl
  one_thing (ReadPrepare op) = Stays (ReadPrepare op) (λ image steps does. does)
  one_thing (ReadReply client) = Stays (ReadReply client) (λ image steps does. does)
  one_thing (ReadBlock address) = Stays (ReadBlock address) (λ image steps does. does)
  one_thing Scrub = one_check (to_check m) refl
  one_thing Recent = Stays Recent (λ image steps does. does)

pub one_thing_law : OneThingLaw
one_thing_law sh spell w given c = one_thing sh spell w given c
