-- What the room holds is what the machine reads.
use Rattle.{std.proofs.Common.{◌≡◌, Bool, Some, refl, ap, subst, ◌∙◌}, df_buffers.specs.Sounds.{Holding}}
use Rattle.df_model.specs.{Faults.{is_lookup_fault}, Refusals.{first_refusal, lookup_refusals}}
use Rattle.df_opening.specs.Below.{State, memory, state_in}
use Rattle.df_replica.{specs.{Lookups.{IsStoredFor}, Stopping.{stopped}}, proofs.{Lent.{lends_written_reply}, LookupCalls.{LoadsReply, lends_as, lookup_stopped, refused_reads, refused_serves, tells_of}, Unblamed.{lookup_unblamed, refused_blames, refused_leaves}}}
use Rattle.df_replica.proofs.replica.Replica.read_reply.Goals as goal
use denote.Ref.{Bor}

pub returns-in-Err : goal.returns-in-Err
returns-in-Err g c = let told = g.D.Disk.told c.args.disk.now in
    let some : first_refusal (lookup_refusals (memory c.args.self.now) c.args.client) ≡ Some c.in-Err.error = subst (λ (s : State).
    first_refusal (lookup_refusals (memory s) c.args.client) ≡ Some c.in-Err.error) c.self.view_is c.in-Err.ensures.refused in
    let v = c.args.self.now in let e = c.in-Err.error in let no = lookup_unblamed (memory v) c.args.client e some in (
      (refl, (λ _. tt), c.self.view_is ∙ refused_leaves is_lookup_fault e no (Bor Holding) v),
      record {
        after = tt;
        exact = refused_reads v c.args.client c.requires.live told e some;
        lent = tt;
        written = tt;
        call = refused_serves (Bor Holding) v c.args.client c.requires.live told e some;
        same = refl;
        cause = refused_blames is_lookup_fault e no (Bor Holding) (g.D.Disk.faults c.args.disk.now);
      },
    )

pub returns-in-Err-load_reply : goal.returns-in-Err-load_reply
returns-in-Err-load_reply g c = let told = g.D.Disk.told c.args.disk.now in
    let for = subst (λ (s : State). IsStoredFor s c.args.client c.in-Ok.stored) c.self.view_is c.in-Ok.ensures.stored in (
      (refl, (λ _. tt), ap (λ (b : Bool). record (state_in c.self.inside.parts) { live = b }) c.end_calls.ensures ∙ ap stopped c.self.view_is),
      record {
        after = tt;
        exact = for.served;
        lent = tt;
        written = tt;
        call = lookup_stopped c.args.self.now c.args.client c.requires.live told (stopped c.args.self.now) refl;
        same = c.load_reply.ensures.same;
        cause = (c.in-Err-load_reply.ensures.cause.later, c.in-Err-load_reply.ensures.cause.failed);
      },
    )

pub returns-in-Some : goal.returns-in-Some
returns-in-Some g c = let told = g.D.Disk.told c.args.disk.now in let loaded = c.in-Ok-load_reply.ensures in let load =
    subst (λ (s : State). LoadsReply s c.args.client told c.in-Ok.stored c.in-Ok-load_reply.wrong c.load_reply.new.room.held) c.self.view_is
    (record { for = c.in-Ok.ensures.stored; known = loaded.known; tells = loaded.tells }) in let tells = tells_of c.args.self.now
    c.args.client c.requires.live told _ _ _ load c.in-Some.class c.reply_place.result c.in-Some.is c.reply_place.ensures in (
      (refl, (λ _. tt), c.self.view_is),
      record { after = tt; exact = tells.exact; lent = tt; written = tt; call = tells.call; same = c.load_reply.ensures.same; cause = loaded.cause.same },
    )

pub returns-in-None : goal.returns-in-None
returns-in-None g c = let client = c.args.client in let v = c.args.self.now in let told = g.D.Disk.told c.args.disk.now in
    let loaded = c.in-Ok-load_reply.ensures in
    let load = subst (λ (s : State). LoadsReply s client told c.in-Ok.stored c.in-Ok-load_reply.wrong c.load_reply.new.room.held) c.self.view_is
    (record { for = c.in-Ok.ensures.stored; known = loaded.known; tells = loaded.tells }) in
    let lends = lends_as v client c.requires.live told _ _ _ load c.unit.result.now c.in-None.is c.unit.ensures in
    let written = lends_written_reply client v _ told lends.exact in (
      (refl, (λ _. tt), c.self.view_is),
      record { after = tt; exact = lends.exact; lent = lends.known; written = written; call = lends.call; same = c.load_reply.ensures.same; cause = loaded.cause.same },
    )
