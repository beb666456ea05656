-- What the room holds is what the machine reads.
use Rattle.{std.proofs.Common.{◌≡◌, Bool, List, Some, None, refl, sym, ap, subst, ◌∙◌}, df_format.specs.declared.header.Header.{Header}}
use Rattle.{df_buffers.specs.Sounds.{Holding}, df_model.specs.{Faults.{is_prepare_fault}, Refusals.{first_refusal, prepare_refusals}}}
use denote.Ref.{Bor}
use Rattle.df_opening.specs.Below.{State, memory, state_in}
use Rattle.df_replica.{specs.Stopping.{stopped}, proofs.{Lent.{lends_written_prepare}, ReadCalls.{LoadsPrepare, lends_as, place_for, prepare_stopped, refused_reads, refused_serves, tells_of}, Unblamed.{prepare_unblamed, refused_blames, refused_leaves}}}
use Rattle.df_replica.proofs.replica.Replica.read_prepare.Goals as goal

pub returns-in-Some : goal.returns-in-Some
returns-in-Some g c = let told = g.D.Disk.told c.args.disk.now in
    let some = subst (λ (s : State). first_refusal (prepare_refusals (memory s) c.args.op)
    ≡ Some c.in-Some.error) c.self.view_is (sym c.prepare_refusal.ensures.why ∙ c.in-Some.is) in
    let v = c.args.self.now in let e = c.in-Some.error in let no = prepare_unblamed (memory v) c.args.op e some in (
      (refl, (λ _. tt), c.self.view_is ∙ refused_leaves is_prepare_fault e no (Bor Holding) v),
      record {
        after = tt;
        exact = refused_reads v c.args.op c.requires.live told e some;
        lent = tt;
        written = tt;
        call = refused_serves (Bor Holding) v c.args.op c.requires.live told e some;
        same = refl;
        cause = refused_blames is_prepare_fault e no (Bor Holding) (g.D.Disk.faults c.args.disk.now);
      },
    )

pub returns-in-Err : goal.returns-in-Err
returns-in-Err g c = let told = g.D.Disk.told c.args.disk.now in let rooms = c.load_prepare.ensures.rooms in
    let none = subst (λ (s : State).
    first_refusal (prepare_refusals (memory s) c.args.op) ≡ None) c.self.view_is (sym c.prepare_refusal.ensures.why ∙ c.in_default.is) in (
      (refl, (λ _. tt), ap (λ (b : Bool). record (state_in c.self.inside.parts) { headers = c.load_prepare.new.rooms.headers; live = b }) c.end_calls.ensures ∙ ap stopped (ap (λ (hs : List Header). record (state_in c.self.inside.parts) { headers = hs }) rooms.headers ∙ c.self.view_is)),
      record {
        after = tt;
        exact = none;
        lent = tt;
        written = tt;
        call = prepare_stopped c.args.self.now c.args.op c.requires.live told (stopped c.args.self.now) refl;
        same = c.load_prepare.ensures.same;
        cause = (c.in-Err.ensures.cause.later, c.in-Err.ensures.cause.failed);
      },
    )

pub returns-in-Some-wrong : goal.returns-in-Some-wrong
returns-in-Some-wrong g c = let told = g.D.Disk.told c.args.disk.now in
    let load = subst (λ (s : State). LoadsPrepare s c.args.op told c.in-Ok.wrong c.load_prepare.new.rooms.prepare.held) c.self.view_is
    (record { none = sym c.prepare_refusal.ensures.why ∙ c.in_default.is; fits = c.load_prepare.ensures.check; holds = c.in-Ok.ensures.loaded.holds; read = c.in-Ok.ensures.loaded.read }) in
    let there = c.prepare_place.ensures ∙ ap (λ (s : State). place_for s c.args.op) c.self.view_is in let tells = tells_of
    c.args.self.now c.args.op c.requires.live told _ _ load c.in-Some-wrong.class c.prepare_place.result c.in-Some-wrong.is there in (
      (refl, (λ _. tt), ap (λ (hs : List Header). record (state_in c.self.inside.parts) { headers = hs }) c.load_prepare.ensures.rooms.headers ∙ c.self.view_is),
      record { after = tt; exact = tells.exact; lent = tt; written = tt; call = tells.call; same = c.load_prepare.ensures.same; cause = c.in-Ok.ensures.cause.same },
    )

pub returns-in-None : goal.returns-in-None
returns-in-None g c = let op = c.args.op in let v = c.args.self.now in let told = g.D.Disk.told c.args.disk.now in
    let load = subst (λ (s : State). LoadsPrepare s op told c.in-Ok.wrong c.load_prepare.new.rooms.prepare.held) c.self.view_is
    (record { none = sym c.prepare_refusal.ensures.why ∙ c.in_default.is; fits = c.load_prepare.ensures.check; holds = c.in-Ok.ensures.loaded.holds; read = c.in-Ok.ensures.loaded.read }) in
    let lends = lends_as v op c.requires.live told _ _ load c.unit.result.now c.in-None.is c.unit.ensures in
    let written = lends_written_prepare op v _ told lends.exact in (
      (refl, (λ _. tt), ap (λ (hs : List Header). record (state_in c.self.inside.parts) { headers = hs }) c.load_prepare.ensures.rooms.headers ∙ c.self.view_is),
      record { after = tt; exact = lends.exact; lent = lends.known; written = written; call = lends.call; same = c.load_prepare.ensures.same; cause = c.in-Ok.ensures.cause.same },
    )
