-- One more is shown as it is named, or the next one lacks.
use Rattle.std.{proofs.{Common.{◌≡◌, ◌∙◌, sym, ap, ℕ, ◌%◌, Bool, true, false, not, None, refl, arith}, lemmas.Slice.Eq.{bytes_eq-Decides}}, specs.Prelude.{Ok}}
use Rattle.{df_format.specs.declared.header.Header.{Header}, df_theory.specs.Shape.{slots}}
use Rattle.df_journal.{specs.{Known.{HasSum}, Scan.{Scan}}, proofs.{Decisions.{shown_checks}, Named.{IsRead, read_all, read_lacks, read_more, read_none}}}
use Rattle.df_journal.proofs.known.lacking_known.Goals as goal

not_false : (b : Bool) → false ≡ not b → b ≡ true
not_false true is = refl
not_false false is = absurd (cc)

not_true : (b : Bool) → true ≡ not b → b ≡ true → ⊥
not_true true is e = cc
not_true false is e = cc

pub loop-op-init : goal.loop-op-init
loop-op-init c = let head : c.found.inside.start.head ≡ c.args.found.now.start.head = ap (λ (s : Scan). s.start.head) c.found.view_is in
    record {
      from = λ within. omega (arith, within, head);
      named = omega (arith, head);
      checksum = c.requires.checksum;
      read = λ sh image content tells names.
          rw (sym head) at (read_none sh image content c.args.layout.now c.args.found.now.start c.args.checksum.now names);
    }

pub loop-op-preserved : goal.loop-op-preserved
loop-op-preserved c = let first : c.found.inside.start.op ≡ c.args.found.now.start.op = ap (λ (s : Scan). s.start.op) c.found.view_is in
    let sum = (bytes_eq-Decides c.in-Ok.header.checksum c.loop-op.wanted).0 (not_false _ c.if-ne.ensures) in record {
      from = λ within. omega (arith, first, c.loop-op-test.true);
      named = omega (arith, c.loop-op.invariant.named);
      checksum = (shown_checks c.args.layout.now c.args.found.now.start.cluster c.slot_of.result
          c.args.found.now.slots c.seen.result c.in-Ok.header c.requires.table c.seen.ensures c.in-Ok.is).1;
      read = λ sh image content tells names. let slot : c.slot_of.result ≡ c.loop-op.op % slots sh =
          c.slot_of.ensures.value ∙ ap (λ (n : ℕ). c.loop-op.op % n) (sym names.slots_are) in
          read_more sh image content c.args.found.now.slots c.slot_of.result c.loop-op.op _ c.seen.result c.loop-op.wanted
          c.in-Ok.header tells.shows c.seen.ensures
          slot (omega (arith, c.loop-op-test.true)) (c.in-Ok.is, sum) (c.loop-op.invariant.read sh image content tells names);
    }

pub returns-in_default-clause-tells : goal.returns-in_default-clause-tells
returns-in_default-clause-tells c = λ sh image content tells names.
    let first : c.found.inside.start.op ≡ c.args.found.now.start.op = ap (λ (s : Scan). s.start.op) c.found.view_is in
    let slot : c.slot_of.result ≡ c.loop-op.op % slots sh = c.slot_of.ensures.value ∙ ap (λ (n : ℕ). c.loop-op.op % n) (sym names.slots_are) in
    read_lacks sh image content c.args.layout.now c.args.found.now.start.cluster
    c.args.found.now.slots c.slot_of.result c.loop-op.op c.seen.result c.loop-op.wanted
    c.requires.table tells.shows c.seen.ensures slot c.loop-op.invariant.checksum (λ h is same. c.in_default.not-Ok h is)
    (omega (arith, names.op_is, first, c.loop-op-test.true)) (c.loop-op.invariant.read sh image content tells names)

pub returns-then-ne-clause-tells : goal.returns-then-ne-clause-tells
returns-then-ne-clause-tells c = λ sh image content tells names.
    let first : c.found.inside.start.op ≡ c.args.found.now.start.op = ap (λ (s : Scan). s.start.op) c.found.view_is in
    let lacks : HasSum c.seen.result c.loop-op.wanted None = λ h is same.
    let both : Ok h ≡ Ok c.in-Ok.header = sym is ∙ c.in-Ok.is in let one : h ≡ c.in-Ok.header = cc in not_true _ c.if-ne.ensures
    ((bytes_eq-Decides c.in-Ok.header.checksum c.loop-op.wanted).1 (ap (λ (x : Header). x.checksum) (sym one) ∙ same)) in
    let slot : c.slot_of.result ≡ c.loop-op.op % slots sh = c.slot_of.ensures.value ∙ ap (λ (n : ℕ). c.loop-op.op % n)
    (sym names.slots_are) in read_lacks sh image content c.args.layout.now c.args.found.now.start.cluster
    c.args.found.now.slots c.slot_of.result c.loop-op.op c.seen.result c.loop-op.wanted
    c.requires.table tells.shows c.seen.ensures slot c.loop-op.invariant.checksum lacks
    (omega (arith, names.op_is, first, c.loop-op-test.true)) (c.loop-op.invariant.read sh image content tells names)

pub returns-clause-tells : goal.returns-clause-tells
returns-clause-tells c = λ sh image content tells names.
    let first : c.found.inside.start.op ≡ c.args.found.now.start.op = ap (λ (s : Scan). s.start.op) c.found.view_is in
    read_all sh image content c.loop-op.op c.loop-op.wanted (omega (arith, names.op_is, names.pin_is, names.from, first, c.loop-op-test.false, c.loop-op.invariant.from (omega (arith, names.op_is, names.pin_is, names.from)))) (c.loop-op.invariant.read sh image content tells names)
