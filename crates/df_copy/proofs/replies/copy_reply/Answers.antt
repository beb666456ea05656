-- The reply of the session is lent, or it isn't.
use Rattle.{std.proofs.Common.{◌∙◌, ℕ, Option, Err, Result, ap, subst, sym}, df_base.specs.Causes.{Blamed}, df_disk.specs.Told.{Told}}
use Rattle.{df_model.specs.{Faults.{is_lookup_fault}, Memory.{reply_sum}}, df_opening.specs.Below.{State, memory}}
use Rattle.df_replica.specs.{Lookups.{place_for}, Stopping.{left_by}}
use Rattle.df_copy.{specs.{declared.ending.Ending.{Ending}, declared.target.Target.{Target}, Acts.{CopiesReply, PutsReply}, Statuses.{is_source, is_target}}, proofs.{Blamed.{on_ok, reply_blamed, reply_spares, unblamed}, ReplyRead.{has_place, not_no_client, not_pending, place_is, place_within, reply_is, reply_names, reply_put, reply_unread, served, slot_is}}}
use Rattle.df_copy.proofs.replies.copy_reply.Goals as goal

-- ---- it is

pub put_reply-requires : goal.put_reply-requires
put_reply-requires g c = let s : State = c.args.replica.now in record {
  place = has_place s c.args.target.now.layout
      c.in-Some.session.client (reply_sum (memory s) (place_for s c.in-Some.session.client)) c.in-Ok.unit.now.unit c.in-Ok.ensures.lent
      (place_within s c.args.place c.in-Some.session (sym c.session.ensures ∙ c.in-Some.is)) c.requires.ready.fits;
}

pub returns-in-Ok-clause-copies : goal.returns-in-Ok-clause-copies
returns-in-Ok-clause-copies g c = λ apart. let s : State = c.args.replica.now in let from : Option Told = g.A.Disk.told c.args.from.now in
    let here = place_is s c.args.place c.in-Some.session apart (sym c.session.ensures ∙ c.in-Some.is) in reply_put s c.args.place
    c.in-Ok.unit.now.unit c.args.target.now c.put_reply.new.target from (g.B.Disk.told c.args.to.now) (g.B.Disk.told c.put_reply.new.to)
    (reply_is s from c.in-Some.session.client c.args.place c.in-Ok.unit.now.unit here c.in-Ok.ensures.lent c.in-Ok.ensures.exact)
    (slot_is s c.in-Some.session.client c.args.place (reply_sum (memory s) (place_for s c.in-Some.session.client))
    c.in-Ok.unit.now.unit c.in-Ok.ensures.lent here) c.put_reply.result c.put_reply.ensures.puts

pub returns-in-Ok-clause-named : goal.returns-in-Ok-clause-named
returns-in-Ok-clause-named g c = let s : State = c.args.replica.now in let client : ℕ = c.in-Some.session.client in
    reply_names s client (reply_sum (memory s) (place_for s client)) c.in-Ok.unit.now.unit c.args.target.now
    c.put_reply.new.target (g.B.Disk.told c.args.to.now) (g.B.Disk.told c.put_reply.new.to) c.put_reply.result c.in-Ok.ensures.lent
    (place_within s c.args.place c.in-Some.session (sym c.session.ensures ∙ c.in-Some.is)) c.put_reply.ensures.puts

pub returns-in-Ok-clause-leaves : goal.returns-in-Ok-clause-leaves
returns-in-Ok-clause-leaves g c = record {
  kept = on_ok c.put_reply.result (c.read_reply.follows.holds-at-none ∙ ap (left_by is_lookup_fault c.args.replica.now) c.in-Ok.is);
  same = c.in-Ok.ensures.same;
  blames_source = unblamed c.put_reply.result (g.A.Disk.faults c.args.from.now) (g.A.Disk.faults c.read_reply.new.disk)
      (λ is. rw is at c.put_reply.ensures.puts) c.in-Ok.ensures.cause;
  blames_target = c.put_reply.ensures.disk;
}

-- ---- it isn't

pub unread_reply-requires-clause-client : goal.unread_reply-requires-clause-client
unread_reply-requires-clause-client g c = let s : State = c.args.replica.now in
    not_no_client s (g.A.Disk.told c.args.from.now) c.in-Some.session.client c.in-Err.error (served s c.args.place
    c.in-Some.session c.fields-fields.ensures.state c.requires.ready.rest (sym c.session.ensures ∙ c.in-Some.is)) c.in-Err.ensures.exact

pub unread_reply-requires-clause-stored : goal.unread_reply-requires-clause-stored
unread_reply-requires-clause-stored g c = let s : State = c.args.replica.now in
    not_pending s (g.A.Disk.told c.args.from.now) c.in-Some.session.client c.in-Err.error (served s c.args.place
    c.in-Some.session c.fields-fields.ensures.state c.requires.ready.rest (sym c.session.ensures ∙ c.in-Some.is)) c.in-Err.ensures.exact

pub returns-in-Err-clause-copies : goal.returns-in-Err-clause-copies
returns-in-Err-clause-copies g c = λ apart. let s : State = c.args.replica.now in let from : Option Told = g.A.Disk.told c.args.from.now in
    let t : Target = c.args.target.now in let to : Option Told = g.B.Disk.told c.args.to.now in
    let at = sym c.session.ensures ∙ c.in-Some.is in
    subst (λ (e : Ending). CopiesReply {T = Unit {0}} t.layout c.args.place s t.checks t.checks from to to (Err e)) (sym c.unread_reply.ensures)
    (reply_unread s from c.in-Some.session.client c.args.place (Unit {0}) t.layout t.checks t.checks to c.in-Err.error (place_is s c.args.place c.in-Some.session apart at) (served s c.args.place c.in-Some.session c.fields-fields.ensures.state c.requires.ready.rest at) c.in-Err.ensures.exact)

pub returns-in-Err-clause-leaves : goal.returns-in-Err-clause-leaves
returns-in-Err-clause-leaves g c = let s : State = c.args.replica.now in let from : Option Told = g.A.Disk.told c.args.from.now in
    let none =
    served s c.args.place c.in-Some.session c.fields-fields.ensures.state c.requires.ready.rest (sym c.session.ensures ∙ c.in-Some.is) in
    record {
      kept = tt;
      same = c.in-Err.ensures.same;
      blames_source = rw (sym c.unread_reply.ensures) at
          (reply_blamed (g.A.Disk.faults c.args.from.now) (g.A.Disk.faults c.read_reply.new.disk)
          c.in-Err.error (not_no_client s from c.in-Some.session.client c.in-Err.error none c.in-Err.ensures.exact)
          (not_pending s from c.in-Some.session.client c.in-Err.error none c.in-Err.ensures.exact) c.in-Err.ensures.cause);
      blames_target = rw (sym c.unread_reply.ensures) at (reply_spares c.in-Err.error (g.B.Disk.faults c.args.to.now));
    }
