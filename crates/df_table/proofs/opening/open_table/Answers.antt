-- The sessions, the blocks, and what stands after the checkpoint.
use Rattle.std.{proofs.{Common.{◌∙◌, ◌++◌, inr, ℕ, [], Err, ap, subst, sym}, lemmas.List.{length-map}}, specs.Prelude.{OnOk}}
use Rattle.{df_layout.specs.declared.places.Zone.TheVariants.{ClientReplies}, df_sessions.specs.Requests.{session_of}}
use Rattle.{df_rows.specs.Tables.{Table}, df_session.specs.{Below.{State as Replica, memory}, Reading.{shown_of}}}
use Rattle.df_table.{specs.{declared.ending.Ending.{Ending}, Calls.{Comes}, Opening.{AreTakenBlocks, FindsOf, NoneIsOther, OtherClient, place_at}, Policy.{block_reads, opening, prepare_reads, replies}, Ready.{HasCaughtUp, IsBegun}}, proofs.{Begun.{ready_found}, Joined.{comes_more, end_front, end_none}}}
use Rattle.df_table.proofs.opening.open_table.Goals as goal

-- ---- another client's session

pub returns-in-Some-clause-opens : goal.returns-in-Some-clause-opens
returns-in-Some-clause-opens g c = λ w begun. let s = c.args.replica.now in let told = g.D.Disk.told c.args.disk.now in
    subst (λ (e : Ending). Comes {T = Table} (opening (memory s)) s s told told (Err e))
    (sym c.not_table.ensures) (end_none (opening (memory s)) s told (place_at ClientReplies c.in-Some.place))

pub returns-in-Some-clause-finds : goal.returns-in-Some-clause-finds
returns-in-Some-clause-finds g c = λ w begun t is. let s = c.args.replica.now in
    subst (λ (e : Ending). FindsOf c.args.layout.now (shown_of s.file t.shown) (memory s) (Err e))
    (sym c.not_table.ensures) (inr (OtherClient c.in-Some.place c.in-Some.ensures.found.0 c.in-Some.ensures.found.1))

-- ---- none is

pub take_blocks-requires : goal.take_blocks-requires
take_blocks-requires g c = record { live = c.requires.live }

pub follow-requires : goal.follow-requires
follow-requires g c = record { live = ap (λ (r : Replica). r.live) c.in-Ok.ensures.kept ∙ c.requires.live }

pub returns-in-Ok-clause-opens : goal.returns-in-Ok-clause-opens
returns-in-Ok-clause-opens g c = λ w begun. let s = c.args.replica.now in
    comes_more (block_reads (memory s)) (prepare_reads (memory s) ++ replies (memory s)) s c.take_blocks.new.replica
    c.follow.new.replica (g.D.Disk.told c.args.disk.now) (g.D.Disk.told c.take_blocks.new.disk) (g.D.Disk.told c.follow.new.disk)
    (c.in-Ok.ensures.makes w begun) c.follow.result (rw (← c.in-Ok.ensures.kept) c.follow.ensures.makes)

pub returns-in-Ok-clause-finds : goal.returns-in-Ok-clause-finds
returns-in-Ok-clause-finds g c = λ w begun t is. let s = c.args.replica.now in let u = c.take_blocks.new.replica in
    let kept = c.in-Ok.ensures.kept in let own = rw (sym (length-map s.table.sessions session_of)) at c.in-None.ensures.none in
    let taken = c.in-Ok.ensures.takes w begun own c.requires.empty t is in
    let finds = c.follow.ensures.finds w (rw (sym kept) at begun) t (c.in-Ok.ensures.same ∙ is) (rw (sym kept) at taken) in
    subst (λ (r : Replica). FindsOf c.args.layout.now (shown_of r.file t.shown) (memory r) c.follow.result) kept finds

pub returns-in-Ok-clause-ready : goal.returns-in-Ok-clause-ready
returns-in-Ok-clause-ready g c = λ w begun t is. let s = c.args.replica.now in let kept = c.in-Ok.ensures.kept in
    let own = rw (sym (length-map s.table.sessions session_of)) at c.in-None.ensures.none in
    let taken = c.in-Ok.ensures.takes w begun own c.requires.empty t is in let opens =
    comes_more (block_reads (memory s)) (prepare_reads (memory s) ++ replies (memory s)) s c.take_blocks.new.replica
    c.follow.new.replica (g.D.Disk.told c.args.disk.now) (g.D.Disk.told c.take_blocks.new.disk) (g.D.Disk.told c.follow.new.disk)
    (c.in-Ok.ensures.makes w begun) c.follow.result (rw (← kept) c.follow.ensures.makes) in
    ready_found c.args.layout.now w s begun (shown_of s.file t.shown)
    c.in-Ok.table taken c.follow.new.replica (g.D.Disk.told c.args.disk.now) (g.D.Disk.told c.follow.new.disk) c.follow.result opens
    (rw kept at c.follow.ensures.caught) c.follow.ensures.live

pub returns-in-Err-clause-opens : goal.returns-in-Err-clause-opens
returns-in-Err-clause-opens g c = λ w begun. let s = c.args.replica.now in
    end_front (block_reads (memory s)) (prepare_reads (memory s) ++ replies (memory s)) s c.take_blocks.new.replica
    (g.D.Disk.told c.args.disk.now) (g.D.Disk.told c.take_blocks.new.disk) c.in-Err.ending (c.in-Err.ensures.makes w begun)

pub returns-in-Err-clause-finds : goal.returns-in-Err-clause-finds
returns-in-Err-clause-finds g c = λ w begun t is. let s = c.args.replica.now in
    let own = rw (sym (length-map s.table.sessions session_of)) at c.in-None.ensures.none in
    c.in-Err.ensures.takes w begun own c.requires.empty t is
