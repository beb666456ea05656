-- Calls of a table's session, one after the other, each of which leaves the table or changes it by its command: the commands of a line,
-- whole or up to one that ended it.
use Rattle.std.{proofs.Common.{◌≡◌, ◌⊎◌, inl, inr, ℕ, zero, suc, ◌+◌, ◌||◌, Bool, true, false, if◌then◌else◌, List, [], ◌∷◌, ◌++◌, append-nil, append_assoc, map, take, Option, Some, None, Ok, refl, sym, ◌∙◌, ap, subst, arith}, specs.Prelude.{replicate}}
use Rattle.std.specs.FinMap as maps
use Rattle.{df_base.proofs.Laws.{no_some}, df_damage.specs.Written.{IsWritten}, df_disk.specs.Told.{Told}}
use Rattle.df_theory.specs.{Device.{units_log}, UnitLog.{UnitLog}, Units.{BlockPlace, BlockUnit, Message}, View.{head}}
use Rattle.df_model.{specs.{After.{after_running, after_step_of, begun, outcome, with_live, with_prepare, with_running}, Blocks.{addresses, entries, sum_at}, Commands.{Advance, Answer, Append, Begin, Command, Release, Reply, ToAppend, WriteBlock, supplied_sum}, Making.{block_of, next_address, prepare_of}, Memory.{Memory, memory_of}, Refusals.{append_refusals, block_refusals, first_refusal, next_request, session_of_client}, Sense.{IsWork}, Work.{Running, Work, is_captured, is_known, is_of, kept}, declared.errors.AppendError.{AppendError}}, proofs.Laws.{block_may_law, entries_same, entry_at}}
use Rattle.df_rows.{specs.{declared.command.Command.{Command as Change}, Blocks.{bodies_of}, Commands.{IsCommand, body_of}, Limits.{rows_in_block}, Tables.{CanApply, Table, with_command, with_commands}}, proofs.Laws.{one_command}}
use Rattle.df_session.specs.{Below.{DataFile, State as Replica, shape, spelling, told_after}, Links.{AreCalls, Calls, More}, Serving.{format, next}, Session.{Act, Exchange, acts_in, work_after}}
use Rattle.df_table.{specs.{Keeping.{Changes}, Policy.{checkpoint, is_full, releases, request, room_for, the_client, writes}, Turns.{IsAccepted, WasAccepted}, Written.{IsTableIn, WroteBodies, WroteBody}}, proofs.{Lasting.{AreKept, At, FailKept, at_behind, bodies_later, grew, none_taken}, Later.{answer_is, block_written, memory_is}, Leads.{table_appended, table_finished, table_stays}, Placed.{LowHeld, NoLive, OnlyLive, entries_last, low_more, lower, none_from, none_live, one_less, one_some, wrote_more}, Rowed.{table_bounds}, Stayed.{IsPlain, began, none_left, plain_stays, released, wrote}}}

-- ---- what is asked for

-- the act that was not answered, if there is one, has this command
abbrev pub IsNext : Command → Option Act → Type 0
IsNext c None = Unit {0}
IsNext c (Some a) = a.command ≡ c

-- These calls ask for the first of these commands, and each was accepted. Where they may be a part of them, the next one may be the one
-- that failed; or none did, and the last one may have been refused.
abbrev pub Asks : (part : Type 0) (failed : Option Act) → List Command → List Exchange → Type 0
Asks part failed [] [] = failed ≡ None
Asks part failed (c ∷ cs) [] = part × IsNext c failed
Asks part failed [] (x ∷ xs) = ⊥
Asks part failed (c ∷ cs) (x ∷ xs) = (x.act.command ≡ c) × (WasAccepted x ⊎ (part × (xs ≡ []) × (failed ≡ None))) × Asks part failed cs xs

-- each command leaves the view
abbrev pub ArePlain : List Command → Type 0
ArePlain [] = Unit {0}
ArePlain (c ∷ cs) = IsPlain c × ArePlain cs

-- of a command that leaves the view no change comes
pub plain_changes : (c : Command) (x : Answer) (some : List Change) → IsPlain c → Changes c x some → some ≡ []
plain_changes (Append client request body) x some plain changes = absurd plain
plain_changes command x some plain changes = changes

-- ---- a walk along the calls

-- however these calls were made, each leaves the table or changes it by its command
abbrev pub KeptAll : (file : DataFile) (failed : Option Act)
    (u : Replica) (new : Option Told) (s : Replica) (old : Option Told) (w : Work) (n : Told) (t : Table) → List Exchange → Type 0
KeptAll file failed u new s old w n t xs = (calls : AreCalls s old xs u new) → AreKept file failed w n t xs calls

module _ (file : DataFile) where
  abbrev log_of : Told → UnitLog
  log_of n = units_log (format file) n.log

  plain_table : (w : Work) (n : Told) (t : Table) (a : Act) (some : List Change) → IsPlain a.command → some ≡ []
      → IsTableIn file (log_of n) (kept w) t → IsTableIn file (log_of n) (kept (next file w a.given a.command).0) (with_commands some t)
  plain_table w n t a some plain none table = let same = plain_stays file w a.given a.command plain in
      subst (λ (l : List Change). IsTableIn file (log_of n) (kept (next file w a.given a.command).0) (with_commands l t)) (sym none)
      (table_stays file (log_of n) (kept w) (kept (next file w a.given a.command).0) t same.checkpoint same.tail table)

  -- of some commands, with these acts after them; where their acts end before them, so it is by `stop`
  module _ (failed : Option Act) (u : Replica) (new : Option Told) (part : Type 0) (fl : Option Act) (more : List Exchange) (end : Work)
      (stop : part → (s : Replica) (old : Option Told) (w : Work) (n : Told) (t : Table)
      → At file s w n t → FailKept file fl w n t → KeptAll file failed u new s old w n t more) where
    abbrev All : (s : Replica) (old : Option Told) (w : Work) (n : Told) (t : Table) → List Exchange → Type 0
    All s old w n t xs = KeptAll file failed u new s old w n t (xs ++ more)

    -- what may be said after all of some commands: so it goes on
    abbrev Behind : (Work → Told → Table → Type 0) → List Command → Type 0
    Behind P cs = (s : Replica) (old : Option Told) (w : Work) (n : Told) (t : Table) (xs : List Exchange)
        → At file s w n t → P w n t → Asks part fl cs xs → work_after file w (acts_in xs) ≡ end → All s old w n t xs

    stopped : (s : Replica) (old : Option Told) (w : Work) (n : Told) (t : Table) (xs : List Exchange)
        → At file s w n t → part → xs ≡ [] → fl ≡ None → All s old w n t xs
    stopped s old w n t [] at here no_more none = stop here s old w n t at (subst (λ (f : Option Act). FailKept file f w n t) (sym none) tt)
    stopped s old w n t (x ∷ xs) at here no_more none = absurd (cc (no_more))

    next_fails : (c : Command) (w : Work) (n : Told) (t : Table) (f : Option Act)
        → IsNext c f → ((a : Act) → a.command ≡ c → FailKept file (Some a) w n t) → FailKept file f w n t
    next_fails c w n t None is fails = tt
    next_fails c w n t (Some a) is fails = fails a is

    -- the next command
    peel : (c : Command) (cs : List Command) (s : Replica) (old : Option Told) (w : Work) (n : Told) (t : Table) (xs : List Exchange)
        → At file s w n t → Asks part fl (c ∷ cs) xs → work_after file w (acts_in xs) ≡ end
        → ((a : Act) → a.command ≡ c → (x : Answer) → x ≡ (next file w a.given a.command).1 → (some : List Change)
        → Changes a.command x some → IsTableIn file (log_of n) (kept (next file w a.given a.command).0) (with_commands some t))
        → ((a : Act) → a.command ≡ c → FailKept file (Some a) w n t)
        → ((a : Act) (r : Replica) (mid : Option Told) (x : Answer) (some : List Change) (xs : List Exchange) → a.command ≡ c
        → (call : Calls a s r old mid (Some x)) → x ≡ (next file w a.given a.command).1 → IsAccepted x → Changes a.command x some
        → At file r (next file w a.given a.command).0 (told_after call.call.events n) (with_commands some t)
        → Asks part fl cs xs → work_after file (next file w a.given a.command).0 (acts_in xs) ≡ end
        → All r mid (next file w a.given a.command).0 (told_after call.call.events n) (with_commands some t) xs) → All s old w n t xs
    peel c cs s old w n t [] at asks ends step fails k calls = stop asks.0 s old w n t at (next_fails c w n t fl asks.1 fails) calls
    peel c cs s old w n t (x ∷ xs) at asks ends step fails k (More r mid call rest) = λ some changes.
        let is = answer_is file x.act s r old mid x.answer w n at.same at.kept_is call.call in
        let table = step x.act asks.0 x.answer is some changes in
        let there = at_behind file x.act s r old mid x.answer w n t (with_commands some t) at call table in (
          table,
          elim asks.1 [
            | inl accepted ↦ k x.act r mid x.answer some xs asks.0 call is accepted changes there asks.2 ends rest
            | inr last ↦ stopped r mid (next file w x.act.given x.act.command).0
                (told_after call.call.events n) (with_commands some t) xs there last.0 last.1 last.2 rest
          ],
        )

    -- one that leaves the view
    peel_plain : (c : Command) (cs : List Command) → IsPlain c → (s : Replica) (old : Option Told) (w : Work)
        (n : Told) (t : Table) (xs : List Exchange) → At file s w n t → Asks part fl (c ∷ cs) xs → work_after file w (acts_in xs) ≡ end
        → ((a : Act) (r : Replica) (mid : Option Told) (x : Answer) (xs : List Exchange)
        → a.command ≡ c → (call : Calls a s r old mid (Some x)) → IsAccepted (next file w a.given c).1
        → At file r (next file w a.given a.command).0 (told_after call.call.events n) t
        → Asks part fl cs xs → work_after file (next file w a.given a.command).0 (acts_in xs) ≡ end
        → All r mid (next file w a.given a.command).0 (told_after call.call.events n) t xs) → All s old w n t xs
    peel_plain c cs plain s old w n t xs at asks ends k =
        let its : (a : Act) → a.command ≡ c → IsPlain a.command = λ a is. subst IsPlain (sym is) plain in
        peel c cs s old w n t xs at asks ends
        (λ a is x from some changes. plain_table w n t a some (its a is) (plain_changes a.command x some (its a is) changes) at.table)
        (λ a is pending changes. (0, plain_table w n t a (take 0 pending) (its a is) (take_none pending) at.table))
        (λ a r mid x some later is call from accepted changes there more_asks more_ends.
        let none = plain_changes a.command x some (its a is) changes in
        let same : x ≡ (next file w a.given c).1 = from ∙ ap (λ (d : Command). (next file w a.given d).1) is in subst (λ (l : List Change).
        All r mid (next file w a.given a.command).0 (told_after call.call.events n) (with_commands l t) later) (sym none)
        (k a r mid x later is call (subst IsAccepted same accepted) (subst (λ (l : List Change).
        At file r (next file w a.given a.command).0 (told_after call.call.events n) (with_commands l t)) none there) more_asks more_ends))
      where
        take_none : (l : List Change) → take 0 l ≡ []
        take_none [] = refl
        take_none (d ∷ l) = refl

    -- some of them, one after the other
    pub walk_plain : (t0 : Table) (cs : List Command) → ArePlain cs → Behind (λ w n t. t ≡ t0) [] → Behind (λ w n t. t ≡ t0) cs
    walk_plain t0 [] plain k s old w n t xs at is asks ends = k s old w n t xs at is asks ends
    walk_plain t0 (c ∷ cs) plain k s old w n t xs at is asks ends = peel_plain c cs plain.0 s old w n t xs at asks ends
        (λ a r mid x later of call accepted there more_asks more_ends. walk_plain
        t0 cs plain.1 k r mid (next file w a.given a.command).0 (told_after call.call.events n) t later there is more_asks more_ends)

    -- ---- releases

    walk_releases : (t0 : Table) (es : List (ℕ × ℕ)) (rest : List Command)
        → Behind (λ w n t. (t ≡ t0) × NoLive w) rest → Behind (λ w n t. (t ≡ t0) × OnlyLive es w) (map (λ x. Release x.0) es ++ rest)
    walk_releases t0 [] rest k s old w n t xs at only asks ends = k s old w n t xs at (only.0, none_live w only.1) asks ends
    walk_releases t0 (x ∷ es) rest k s old w n t xs at only asks ends =
        peel_plain (Release x.0) (map (λ y. Release y.0) es ++ rest) tt s old w n t xs at asks ends
        (λ a r mid y later is call accepted there more_asks more_ends.
        let state : (next file w a.given a.command).0 ≡ with_live w x.0 None =
        ap (λ (d : Command). (next file w a.given d).0) is ∙ released file w a.given x.0 accepted in
        walk_releases t0 es rest k r mid (next file w a.given a.command).0 (told_after call.call.events n)
        t later there (only.0, subst (OnlyLive es) (sym state) (one_less x es w only.1)) more_asks more_ends)

    -- ---- writes

    -- the live blocks, in order of address
    abbrev live_entries : Work → List (ℕ × ℕ)
    live_entries w = entries w.live (addresses (shape file).layout)

    walk_writes : (t0 : Table) (done todo : List (List ℕ)) (rest : List Command)
        → Behind (λ w n t. (t ≡ t0) × WroteBodies (log_of n) (live_entries w) (done ++ todo)) rest
        → Behind (λ w n t. (t ≡ t0) × WroteBodies (log_of n) (live_entries w) done × LowHeld w) (map (WriteBlock 1) todo ++ rest)
    walk_writes t0 done [] rest k s old w n t xs at so asks ends = k s old w n t xs at (so.0, rw ((append-nil done)) so.1) asks ends
    walk_writes t0 done (body ∷ todo) rest k s old w n t xs at so asks ends =
        peel_plain (WriteBlock 1 body) (map (WriteBlock 1) todo ++ rest) tt s old w n t xs at asks ends
        (λ a r mid x later is call accepted there more_asks more_ends.
        let m = memory_of (shape file) (spelling file) w in let sum = supplied_sum a.given in let address = next_address m in
        let behind : Told = told_after call.call.events n in let did = wrote file w a.given body accepted in
        let state : (next file w a.given a.command).0 ≡ with_live w address (Some sum) =
        ap (λ (d : Command). (next file w a.given d).0) is ∙ did.1 in
        let least = block_may_law (shape file) (spelling file) w 1 body did.0 in
        let own = memory_is file a s r old mid x w n at.same at.kept_is call.call in let its = block_written file a s r old mid x
        w n at.same at.kept_is call.call body is (subst (λ (k : Memory). first_refusal (block_refusals k 1 body) ≡ None) (sym own) did.0) in
        let block : WroteBody (log_of behind) (address, sum) body = record {
          block = block_of m.content.boot sum 1 body;
          there = subst (λ (k : Memory).
              IsWritten (log_of behind) (BlockPlace (next_address k)) (BlockUnit (block_of k.content.boot sum 1 body))) own its;
          sum = refl;
          own = omega arith;
          body_is = refl;
        } in let all : WroteBodies (log_of behind) (live_entries (with_live w address (Some sum))) (done ++ body ∷ []) =
        rw ((entries_last w.live address sum 1 (shape file).layout.blocks least.inside.0 (omega (arith, least.inside.1)) (λ y d live.
        lower w address y d so.2 least.inside.0 least.free live))) (wrote_more (log_of behind) (live_entries w)
        done (address, sum) body (bodies_later file n.log behind.log (live_entries w) done (grew call.call.events n) so.1) block) in
        walk_writes t0 (done ++ body ∷ []) todo rest
        (λ s old w n t xs at so asks ends. k s old w n t xs at (so.0, rw (← (append_assoc done (body ∷ []) todo)) so.1) asks ends)
        r mid (next file w a.given a.command).0 behind t later there
        (so.0, rw state all, subst LowHeld (sym state) (low_more (shape file) w address sum so.2 least)) more_asks more_ends)

    -- ---- the begin and its steps

    -- the bodies of the blocks of a table
    abbrev bodies_in : Table → List (List ℕ)
    bodies_in t = bodies_of (rows_in_block file.layout) (maps.entries t.rows)

    -- where a checkpoint runs it captured the head, and the blocks of the table
    abbrev Captured : (bodies : List (List ℕ)) (w : Work) (n : Told) → Type 0
    Captured bodies w n = (r : Running) → w.running ≡ Some r
        → (r.op ≡ head w.view) × WroteBodies (log_of n) (entries r.parts.references (addresses (shape file).layout)) bodies

    walk_begin : (t0 : Table) (bodies : List (List ℕ)) (rest : List Command) → Behind (λ w n t. (t ≡ t0) × Captured bodies w n) rest
        → Behind (λ w n t. (t ≡ t0) × WroteBodies (log_of n) (live_entries w) bodies) (Begin [] ∷ rest)
    walk_begin t0 bodies rest k s old w n t xs at so asks ends = peel_plain (Begin []) rest tt s old w n t xs at asks ends
        (λ a r mid x later is call accepted there more_asks more_ends.
        let behind : Told = told_after call.call.events n in
        let state : (next file w a.given a.command).0 ≡ with_running w (Some (begun (shape file) (spelling file) w [])) =
        ap (λ (d : Command). (next file w a.given d).0) is ∙ began file w a.given [] accepted in
        let same : entries (λ y. sum_at y (live_entries w)) (addresses (shape file).layout) ≡ live_entries w =
        entries_same (λ y. sum_at y (live_entries w)) w.live 1 (shape file).layout.blocks (λ y from to.
        entry_at w.live 1 (shape file).layout.blocks y from to) in
        let written = bodies_later file n.log behind.log (live_entries w) bodies (grew call.call.events n) so.1 in
        let captured : Captured bodies (with_running w (Some (begun (shape file) (spelling file) w []))) behind = λ q running.
        rw (← (one_some running)) (refl, subst (λ (l : List (ℕ × ℕ)). WroteBodies (log_of behind) l bodies) (sym same) written) in
        k r mid (next file w a.given a.command).0 behind t later there (so.0, rw state captured) more_asks more_ends)

    -- what a step leads to
    record Stepped (t : Table) (n : Told) (v : Work) : Type 0 where
      table : IsTableIn file (log_of n) (kept v) t
      captured : Captured (bodies_in t) v n

    finished_there : (w : Work) (n : Told) (t : Table) (sum : ℕ) (r : Running) → IsTableIn file (log_of n) (kept w) t
        → (r.op ≡ head w.view) × WroteBodies (log_of n) (entries r.parts.references (addresses (shape file).layout)) (bodies_in t)
        → (left : List ℕ) → Stepped t n (after_running (shape file) (spelling file) w sum r left).0
    finished_there w n t sum r table so [] = let bounds = table_bounds file (log_of n) (kept w) t table in record {
      table = table_finished file (log_of n) (kept (after_running (shape file) (spelling file) w sum r []).0)
          t bounds.max bounds.few bounds.fit bounds.blocks so.1 (none_left r.op w.view so.0);
      captured = λ q running. absurd (let no : None ≡ Some q = running in cc);
    }
    finished_there w n t sum r table so (a ∷ more) = record {
      table = table_stays file (log_of n) (kept w) (kept w) t refl refl table;
      captured = λ q running. subst (λ (z : Running). (z.op ≡ head w.view)
          × WroteBodies (log_of n) (entries z.parts.references (addresses (shape file).layout)) (bodies_in t)) (one_some running) so;
    }

    stepped_there : (w : Work) (n : Told) (t : Table) (sum : ℕ) → IsTableIn file (log_of n) (kept w) t → Captured (bodies_in t) w n
        → (o : Option Running) → w.running ≡ o → Stepped t n (after_step_of (shape file) (spelling file) w sum o).0
    stepped_there w n t sum table captured None is = record { table = table; captured = captured }
    stepped_there w n t sum table captured (Some r) is = finished_there w n t sum r table (captured r is) r.left

    stepped : (w : Work) (n : Told) (t : Table) (a : Act) → a.command ≡ Advance
        → IsTableIn file (log_of n) (kept w) t → Captured (bodies_in t) w n → Stepped t n (next file w a.given a.command).0
    stepped w n t a is table captured = subst (λ (c : Command).
        Stepped t n (next file w a.given c).0) (sym is) (stepped_there w n t (supplied_sum a.given) table captured w.running refl)

    no_change : (c : Command) (x : Answer) (some : List Change) → c ≡ Advance → Changes c x some → some ≡ []
    no_change c x some is changes = subst (λ (d : Command). Changes d x some) is changes

    walk_steps : (t0 : Table) (steps : ℕ) (rest : List Command)
        → Behind (λ w n t. t ≡ t0) rest → Behind (λ w n t. (t ≡ t0) × Captured (bodies_in t0) w n) (replicate steps Advance ++ rest)
    walk_steps t0 zero rest k s old w n t xs at so asks ends = k s old w n t xs at so.0 asks ends
    walk_steps t0 (suc steps) rest k s old w n t xs at so asks ends = let captured : Captured (bodies_in t) w n = rw so.0 so.1 in
        peel Advance (replicate steps Advance ++ rest) s old w n t xs at asks ends (λ a is x from some changes.
        subst (λ (l : List Change). IsTableIn file (log_of n) (kept (next file w a.given a.command).0) (with_commands l t))
        (sym (no_change a.command x some is changes)) (stepped w n t a is at.table captured).table)
        (λ a is pending changes. (0, rw ((none_taken t pending)) (stepped w n t a is at.table captured).table))
        (λ a r mid x some later is call from accepted changes there more_asks more_ends.
        let behind : Told = told_after call.call.events n in let none = no_change a.command x some is changes in
        let here : At file r (next file w a.given a.command).0 behind t =
        subst (λ (l : List Change). At file r (next file w a.given a.command).0 behind (with_commands l t)) none there in
        let still : Captured (bodies_in t0) (next file w a.given a.command).0 behind = λ q running.
        let known = (stepped w n t a is at.table captured).captured q running in (
          known.0,
          rw (← so.0) (bodies_later file n.log
              behind.log (entries q.parts.references (addresses (shape file).layout)) (bodies_in t) (grew call.call.events n) known.1),
        ) in subst (λ (l : List Change). All r mid (next file w a.given a.command).0 behind (with_commands l t) later) (sym none)
        (walk_steps t0 steps rest k r mid (next file w a.given a.command).0 behind t later here (so.0, still) more_asks more_ends))

    -- ---- the request

    module _ (t0 : Table) (c : Change) (fits : IsCommand c) (can : CanApply t0 c) (request op : ℕ) where
      abbrev append : Command
      append = Append the_client request (body_of c)

      abbrev refusal : Work → Option AppendError
      refusal w = first_refusal (append_refusals (memory_of (shape file) (spelling file) w) the_client request (body_of c))

      abbrev prepare : Work → ℕ → Message
      prepare w sum = prepare_of (memory_of (shape file) (spelling file) w) sum the_client request (body_of c)

      -- what is appended has the table after the command
      appended_there : (w : Work) (n : Told) (t : Table) (sum : ℕ) → t ≡ t0
          → IsTableIn file (log_of n) (kept w) t → IsTableIn file (log_of n) (kept (with_prepare w (prepare w sum))) (with_command c t)
      appended_there w n t sum is table = table_appended file (log_of n) (kept w) (kept (with_prepare w (prepare w sum)))
          t (prepare w sum) c refl refl (record { body_is = refl; fits = fits; room = rw is can }) table

      -- the change of an accepted append is this command
      its_change : (some : List Change) → (d : Change) × IsCommand d × (body_of c ≡ body_of d) × (some ≡ d ∷ []) → some ≡ c ∷ []
      its_change some changes = changes.3 ∙ ap (λ (e : Change). e ∷ []) (sym (one_command c changes.0 fits changes.1 changes.2))

      append_table : (w : Work) (n : Told) (t : Table) (sum : ℕ) → t ≡ t0 → IsTableIn file (log_of n) (kept w) t → (o : Option AppendError) (x : Answer) → x ≡ ToAppend (outcome {A = ℕ × ℕ} o w (with_prepare w (prepare w sum)) ((prepare w sum).header.op, sum)).1 → (some : List Change) → Changes append x some
          → IsTableIn file (log_of n)
          (kept (outcome {A = ℕ × ℕ} o w (with_prepare w (prepare w sum)) ((prepare w sum).header.op, sum)).0) (with_commands some t)
      append_table w n t sum is table None x from some changes = let known = subst (λ (y : Answer). Changes append y some) from changes in
          subst (λ (l : List Change). IsTableIn file (log_of n) (kept (with_prepare w (prepare w sum))) (with_commands l t))
          (sym (its_change some known)) (appended_there w n t sum is table)
      append_table w n t sum is table (Some e) x from some changes =
          let none : some ≡ [] = subst (λ (y : Answer). Changes append y some) from changes in
          subst (λ (l : List Change). IsTableIn file (log_of n) (kept w) (with_commands l t)) (sym none) table

      append_fails : (w : Work) (n : Told) (t : Table) (sum : ℕ) → t ≡ t0 → IsTableIn file (log_of n) (kept w) t
          → (o : Option AppendError) (pending : List Change) → Changes append (ToAppend (Ok (0, 0))) pending
          → (k : ℕ) × IsTableIn file (log_of n) (kept
          (outcome {A = ℕ × ℕ} o w (with_prepare w (prepare w sum)) ((prepare w sum).header.op, sum)).0) (with_commands (take k pending) t)
      append_fails w n t sum is table None pending changes =
          (1, subst (λ (l : List Change). IsTableIn file (log_of n) (kept (with_prepare w (prepare w sum))) (with_commands (take 1 l) t)) (sym (its_change pending changes)) (appended_there w n t sum is table))
      append_fails w n t sum is table (Some e) pending changes = (0, rw ((none_taken t pending)) table)

      append_accepted : (w : Work) (sum : ℕ) → (o : Option AppendError) (x : Answer) → x ≡ ToAppend (outcome {A = ℕ × ℕ} o w (with_prepare w
          (prepare w sum)) ((prepare w sum).header.op, sum)).1 → IsAccepted x → (some : List Change) → Changes append x some → some ≡ c ∷ []
      append_accepted w sum None x from accepted some changes = its_change some (subst (λ (y : Answer). Changes append y some) from changes)
      append_accepted w sum (Some e) x from accepted some changes = absurd (subst IsAccepted from accepted)

      walk_request : Behind (λ w n t. t ≡ with_command c t0) [] → Behind (λ w n t. t ≡ t0) (append ∷ Reply op [] ∷ [])
      walk_request k s old w n t xs at so asks ends = peel append (Reply op [] ∷ []) s old w n t xs at asks ends
          (λ a is x from some changes.
          let x_is = from ∙ ap (λ (d : Command). (next file w a.given d).1) is in
          subst (λ (d : Command). IsTableIn file (log_of n) (kept (next file w a.given d).0) (with_commands some t)) (sym is)
          (append_table w n t (supplied_sum a.given) so at.table (refusal w) x x_is some (subst (λ (d : Command). Changes d x some) is changes)))
          (λ a is pending changes. subst (λ (d : Command).
          (j : ℕ) × IsTableIn file (log_of n) (kept (next file w a.given d).0) (with_commands (take j pending) t)) (sym is)
          (append_fails w n t (supplied_sum a.given)
          so at.table (refusal w) pending (subst (λ (d : Command). Changes d (ToAppend (Ok (0, 0))) pending) is changes)))
          (λ a r mid x some later is call from accepted changes there more_asks more_ends.
          let behind : Told = told_after call.call.events n in let x_is = from ∙ ap (λ (d : Command). (next file w a.given d).1) is in
          let its : some ≡ c ∷ [] = append_accepted
          w (supplied_sum a.given) (refusal w) x x_is accepted some (subst (λ (d : Command). Changes d x some) is changes) in
          peel_plain (Reply op []) [] tt r mid (next file w a.given a.command).0 behind (with_commands some t) later there more_asks more_ends
          (λ b q one y last of reply yes here last_asks last_ends. k q one (next file (next file w a.given a.command).0 b.given b.command).0
          (told_after reply.call.events behind) (with_commands some t) last here
          (ap (λ (l : List Change). with_commands l t) its ∙ ap (with_command c) so) last_asks last_ends))

    -- ---- a line's commands

    module _ (t0 : Table) (c : Change)
        (fits : IsCommand c) (can : CanApply t0 c) (m : Memory) (steps : ℕ) (k : Behind (λ w n t. t ≡ with_command c t0) []) where
      asked : Behind (λ w n t. t ≡ t0) (request m c)
      asked = walk_request t0 c fits can (next_request (session_of_client the_client m.sessions)) (m.head + 1) k

      abbrev steps_then : List Command
      steps_then = replicate steps Advance ++ request m c

      abbrev writes_then : List Command
      writes_then = writes file.layout t0.rows ++ (Begin [] ∷ steps_then)

      begins : Behind (λ w n t. (t ≡ t0) × WroteBodies (log_of n) (live_entries w) (bodies_in t0)) (Begin [] ∷ steps_then)
      begins = walk_begin t0 (bodies_in t0) steps_then (walk_steps t0 steps (request m c) asked)

      writing : Behind (λ w n t. (t ≡ t0) × NoLive w) writes_then
      writing s old w n t xs at so asks ends = walk_writes t0 [] (bodies_in t0) (Begin [] ∷ steps_then) begins s old w n t xs at
          (so.0, subst (λ (l : List (ℕ × ℕ)). WroteBodies (log_of n) l []) (sym (none_from w.live 1 (shape file).layout.blocks (λ y from. no_some (w.live y) (λ d is. so.1 y d is)))) tt, λ y d live. absurd (so.1 y d live)) asks ends

      -- all that is live lies in the grid
      live_there : (s : Replica) (w : Work) (n : Told) (t : Table)
          → At file s w n t → m ≡ memory_of (shape file) (spelling file) w → OnlyLive m.blocks.live w
      live_there s w n t at is y d live =
          let sense = subst (λ (f : DataFile). IsWork (shape f) (spelling f) w) at.same at.kept_is.kept_by.0.sense in
          let inside = sense.grid y (ap (λ (o : Option ℕ). is_known
          o || (is_captured y w.running || (is_known (w.view.checkpoint.parts.references y) || is_of y w.view.checkpoint.chain))) live) in
          (d, ap (λ (z : Memory). sum_at y z.blocks.live) is ∙ entry_at w.live 1 (shape file).layout.blocks y inside.0 (omega (arith, inside.1)) ∙ live)

      full : Behind (λ w n t.
          (t ≡ t0) × (m ≡ memory_of (shape file) (spelling file) w)) (checkpoint file.layout m t0.rows steps ++ request m c)
      full = let rest = Begin [] ∷ replicate steps Advance in
          let same : checkpoint file.layout m t0.rows steps ++ request m c ≡ releases m ++ writes_then =
          append_assoc (releases m) (writes file.layout t0.rows ++ rest) (request m c)
          ∙ ap (λ (l : List Command). releases m ++ l) (append_assoc (writes file.layout t0.rows) rest (request m c)) in
          subst (λ (l : List Command). Behind (λ w n t. (t ≡ t0) × (m ≡ memory_of (shape file) (spelling file) w)) l) (sym same)
          (λ s old w n t xs at so asks ends.
          walk_releases t0 m.blocks.live writes_then writing s old w n t xs at (so.0, live_there s w n t at so.1) asks ends)

      pub walk_change : Behind (λ w n t.
          (t ≡ t0) × (m ≡ memory_of (shape file) (spelling file) w)) (room_for file.layout m t0.rows steps ++ request m c)
      walk_change = go (is_full m)
        where
          go : (b : Bool) → Behind (λ w n t. (t ≡ t0)
              × (m ≡ memory_of (shape file) (spelling file) w)) ((if b then checkpoint file.layout m t0.rows steps else []) ++ request m c)
          go true = full
          go false = λ s old w n t xs at so asks ends. asked s old w n t xs at so.0 asks ends
