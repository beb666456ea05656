-- Each turn makes the prepare of the first request that is left.
use Rattle.std.proofs.Common.{◌≡◌, ◌<◌, ◌≤◌, ◌+◌, ◌++◌, ◌∷◌, [], ℕ, List, length, drop, IsSome, refl, sym, ◌∙◌, ap, subst, arith, append-nil}
use Rattle.{df_base.proofs.Laws.{AreBytes-check_of, length-check_of}, df_buffers.specs.{Below.{WalPrepares}, Sounds.{Holding}}}
use Rattle.df_format.specs.{declared.header.Header.{Header}, Message.{Message}, Own.{own_place}, Spelling.{IsCheck}}
use Rattle.{df_layout.specs.declared.layout.Layout.{Layout}, df_journal.specs.Flush.{held_prepares}, df_model.specs.Work.{Request}}
use Rattle.df_opening.specs.Below.{Staged, first_request}
use Rattle.df_replica.{specs.{declared.flush.Group.{Group}, Appending.{unit_made}, Flushing.{AreMadeFor, IsMadeFor, MaySeal, group_prepares, header_in, request_made}}, proofs.{FlushUnits.{first_there, length_later, seal_on, units_turn}, StageTests.{get_pushed}}}
use Rattle.df_replica.proofs.flush.seal_all.Goals as goal

-- nothing is left
none_left : (rs : List Request) → length rs ≤ 0 → rs ≡ []
none_left [] none = refl
none_left (r ∷ rs) none = absurd (omega (arith, none))

-- the header is that of the first request
header_of_first : (g : Group) (op : ℕ) (parent : List ℕ) (client request : ℕ) (r : Request) (h : Header)
    → client ≡ r.client → request ≡ r.request → h ≡ header_in g op parent (request_made client request []) → h ≡ header_in g op parent r
header_of_first g op parent client request r h named asked is = is ∙ (λ i. header_in g op parent (request_made (named i) (asked i) r.body))

pub loop-before-init : goal.loop-before-init
loop-before-init c = let same = c.loosen.ensures in record {
  layout = ap (λ (s : Staged). s.layout) same ∙ c.requires.layout;
  may = subst (λ (s : Staged). MaySeal c.args.group.now c.args.group.now.first c.args.parent s.requests) (sym same) c.requires.may;
  units = ap (λ (s : Staged).
      held_prepares s.sealed ++ group_prepares c.args.group.now c.args.group.now.first c.args.parent c.loosen.new.self.requests) same;
  made = subst (λ (s : Staged). AreMadeFor c.args.group.now.file s.sealed) (sym same) (λ i held at. absurd (cc));
}

pub header_in-requires-clause-may : goal.header_in-requires-clause-may
header_in-requires-clause-may c = c.loop-before.invariant.may.next

pub header_in-requires-clause-last : goal.header_in-requires-clause-last
header_in-requires-clause-last c = omega (arith, c.loop-before.invariant.may.to, c.loop-before-test.true, c.len.ensures.count)

pub header_in-requires-clause-client : goal.header_in-requires-clause-client
header_in-requires-clause-client c = let rs = c.loop-before.staging.requests in
    let at = first_there rs (omega (arith, c.loop-before-test.true, c.len.ensures.count)) in
    let told = c.request-client.ensures (first_request rs) at in
    omega (arith, told.0, (c.loop-before.invariant.may.each 0 (first_request rs) at).client.0)

pub header_in-requires-clause-request : goal.header_in-requires-clause-request
header_in-requires-clause-request c = let rs = c.loop-before.staging.requests in
    let at = first_there rs (omega (arith, c.loop-before-test.true, c.len.ensures.count)) in
    let told = c.request-client.ensures (first_request rs) at in
    let is = (c.loop-before.invariant.may.each 0 (first_request rs) at).request in
    (omega (arith, told.1, is.0), omega (arith, told.1, is.1))

pub seal_first-before-requires-clause-rules : goal.seal_first-before-requires-clause-rules
seal_first-before-requires-clause-rules c = let rs = c.loop-before.staging.requests in
    let at = first_there rs (omega (arith, c.loop-before-test.true, c.len.ensures.count)) in
    c.header_in.ensures.rules (first_request rs).body (c.loop-before.invariant.may.each 0 (first_request rs) at).fits

pub seal_first-before-requires-clause-own : goal.seal_first-before-requires-clause-own
seal_first-before-requires-clause-own c =
    subst (λ (l : Layout). IsSome (own_place l WalPrepares c.header_in.result)) (sym c.loop-before.invariant.layout) c.header_in.ensures.own

pub loop-before-preserved : goal.loop-before-preserved
loop-before-preserved c = let rs = c.loop-before.staging.requests in let g = c.args.group.now in let r : Request = first_request rs in
    let inv = c.loop-before.invariant in let some : 0 < length rs = omega (arith, c.loop-before-test.true, c.len.ensures.count) in
    let told = c.request-client.ensures r (first_there rs some) in let seal = c.seal_first-before.ensures in
    let check = c.seal_first-before.result in let header = header_of_first g c.loop-before.op
    c.loop-before.before c.request-client.result.0 c.request-client.result.1 r c.header_in.result told.0 told.1 c.header_in.ensures.value in
    let held = seal.sealed.held in let made : held.unit ≡ unit_made (header_in g c.loop-before.op c.loop-before.before r) r.body =
    seal.sealed.unit ∙ ap (λ (h : Header). unit_made h r.body) header in
    let sum : check ≡ (unit_made (header_in g c.loop-before.op c.loop-before.before r) r.body).header.checksum =
    seal.sum ∙ ap (λ (h : Header). (unit_made h r.body).header.checksum) header in
    let is : IsCheck check = subst IsCheck (sym seal.sum) (record { size = length-check_of _; each = AreBytes-check_of _ }) in
    let whole = group_prepares g g.first c.args.parent c.loosen.new.self.requests in record {
      layout = seal.layout ∙ inv.layout;
      may = subst (λ (xs : List Request). MaySeal g (c.loop-before.op + 1) check xs)
          (sym seal.requests) (seal_on g c.loop-before.op c.loop-before.before check rs some is inv.may);
      units = subst (λ (xs : List Request).
          held_prepares c.seal_first-before.new.self.sealed ++ group_prepares g (c.loop-before.op + 1) check xs ≡ whole) (sym seal.requests)
          (subst (λ (hs : List Holding).
          held_prepares hs ++ group_prepares g (c.loop-before.op + 1) check (drop 1 rs) ≡ whole) (sym seal.sealed.last)
          (units_turn g c.loop-before.op c.loop-before.before check rs c.loop-before.staging.sealed held whole some made sum inv.units));
      made = subst (AreMadeFor g.file) (sym seal.sealed.last)
          (get_pushed (IsMadeFor g.file) c.loop-before.staging.sealed held inv.made (record { layout_is = seal.sealed.layout ∙ inv.layout; cluster = ap (λ (u : Message). u.header.cluster) made; sectors = seal.sealed.sectors }));
    }

pub loop-before-smaller : goal.loop-before-smaller
loop-before-smaller c = let rs = c.loop-before.staging.requests in
    let some : 0 < length rs = omega (arith, c.loop-before-test.true, c.len.ensures.count) in
    omega (arith, length_later rs some, ap (λ (xs : List Request). length xs) c.seal_first-before.ensures.requests)

pub returns-clause-units : goal.returns-clause-units
returns-clause-units c = let g = c.args.group.now in let helds = c.loop-before.staging.sealed in
    let none : c.loop-before.staging.requests ≡ [] =
    none_left c.loop-before.staging.requests (omega (arith, c.loop-before-test.false, c.len.ensures.count)) in
    sym (append-nil (held_prepares helds)) ∙ ap (λ (rs : List Request).
    held_prepares helds ++ group_prepares g c.loop-before.op c.loop-before.before rs) (sym none) ∙ c.loop-before.invariant.units
    ∙ ap (λ (s : Staged). group_prepares g g.first c.args.parent s.requests) c.loosen.ensures
