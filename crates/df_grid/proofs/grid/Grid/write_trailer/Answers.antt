-- The block that was made is the running trailer's next one.
use Rattle.{std.{proofs.Common.{◌≡◌, ℕ, List, ap, subst, ◌∙◌, arith}, specs.Prelude.{slice_get}}, df_disk.specs.Adds.{AddsPart, after_all}}
use Rattle.{df_format.specs.declared.header.Header.{Header}, df_units.specs.Meaning.{number_of}}
use Rattle.df_grid.{specs.{Grid.{GridState, with_blocks}, Table.{TableState, next_written}, Writes.{address_in, checksum_in, made, made_events, next_header, next_unit}}, proofs.Writing.{state_of, header_next, header_owns, next_is, next_steps}}
use Rattle.df_grid.proofs.grid.Grid.write_trailer.Goals as goal

pub put_made-requires-clause-own : goal.put_made-requires-clause-own
put_made-requires-clause-own g c = let s = c.self.inside in let has = c.in-Some.ensures.inside in
    rw c.trailer_header-header.ensures.header (header_owns s.layout s.cluster s.boot c.in-Some.address c.args.index c.args.sequence (address_in c.last_written-before.result) (checksum_in c.last_written-before.result) (has.0, omega (arith, has.1, c.self.invariant.size_is)))

pub returns-in-Ok-clause-events : goal.returns-in-Ok-clause-events
returns-in-Ok-clause-events g c = let s = c.self.inside in
    let header = header_next _ c.args.self.now c.args.sequence c.in-Some.address c.args.index c.trailer_header-header.result c.last_written-before.result c.self.view_is c.trailer_header-header.ensures.header c.in-Some.ensures.next c.requires.index c.last_written-before.ensures.pair c.trailer_header-header.ensures.parent in
    subst (λ (v : GridState). g.D.Disk.told c.put_made.new.disk
    ≡ after_all (made_events v.layout (next_unit v c.args.sequence c.args.piece.now)) (g.D.Disk.told c.args.disk.now)) c.self.view_is
    (rw header at c.in-Ok.ensures.events)

pub returns-in-Err-clause-events : goal.returns-in-Err-clause-events
returns-in-Err-clause-events g c = let s = c.self.inside in
    let header = header_next _ c.args.self.now c.args.sequence c.in-Some.address c.args.index c.trailer_header-header.result c.last_written-before.result c.self.view_is c.trailer_header-header.ensures.header c.in-Some.ensures.next c.requires.index c.last_written-before.ensures.pair c.trailer_header-header.ensures.parent in
    subst (λ (v : GridState). AddsPart (made_events v.layout (next_unit v c.args.sequence c.args.piece.now))
    (g.D.Disk.told c.args.disk.now) (g.D.Disk.told c.put_made.new.disk)) c.self.view_is (rw header at c.in-Err.ensures.events)

pub returns-in-Ok-clause-steps : goal.returns-in-Ok-clause-steps
returns-in-Ok-clause-steps g c = next_steps _ c.args.self.now c.args.sequence c.args.piece.now c.trailer_header-header.result c.self.view_is
    (header_next _ c.args.self.now c.args.sequence c.in-Some.address c.args.index c.trailer_header-header.result c.last_written-before.result c.self.view_is c.trailer_header-header.ensures.header c.in-Some.ensures.next c.requires.index c.last_written-before.ensures.pair c.trailer_header-header.ensures.parent)
    c.put_made.ensures.steps

pub returns-in-Err-clause-steps : goal.returns-in-Err-clause-steps
returns-in-Err-clause-steps g c =
    next_steps _ c.args.self.now c.args.sequence c.args.piece.now c.trailer_header-header.result c.self.view_is
    (header_next _ c.args.self.now c.args.sequence c.in-Some.address c.args.index c.trailer_header-header.result c.last_written-before.result c.self.view_is c.trailer_header-header.ensures.header c.in-Some.ensures.next c.requires.index c.last_written-before.ensures.pair c.trailer_header-header.ensures.parent)
    c.put_made.ensures.steps

pub returns-in-Ok-clause-unit : goal.returns-in-Ok-clause-unit
returns-in-Ok-clause-unit g c = let b = c.last_written-before in next_is c.args.self.now c.args.sequence c.args.piece.now
    b.result (b.ensures.pair ∙ ap (λ (v : GridState). slice_get v.blocks.written 0) c.self.view_is) c.trailer_header-header.ensures.parent

pub returns-in-Err-clause-unit : goal.returns-in-Err-clause-unit
returns-in-Err-clause-unit g c = let b = c.last_written-before in next_is c.args.self.now c.args.sequence c.args.piece.now
    b.result (b.ensures.pair ∙ ap (λ (v : GridState). slice_get v.blocks.written 0) c.self.view_is) c.trailer_header-header.ensures.parent

pub returns-in-Ok-clause-written : goal.returns-in-Ok-clause-written
returns-in-Ok-clause-written g c = let s = c.self.inside in
    let header = header_next _ c.args.self.now c.args.sequence c.in-Some.address c.args.index c.trailer_header-header.result c.last_written-before.result c.self.view_is c.trailer_header-header.ensures.header c.in-Some.ensures.next c.requires.index c.last_written-before.ensures.pair c.trailer_header-header.ensures.parent in
    let sum : c.in-Ok.checksum ≡ (made (next_header s.cluster s.boot c.args.sequence s.table.blocks) c.args.piece.now).header.checksum =
    c.in-Ok.ensures.checksum ∙ ap (λ (h : Header). (made h c.args.piece.now).header.checksum) header in
    ap (λ (t : TableState). state_of s.layout s.cluster s.boot t.blocks) c.put_trailer.ensures
    ∙ ap (λ (n : List ℕ). state_of s.layout s.cluster s.boot (next_written s.table.blocks (number_of n))) sum ∙ ap (λ (v : GridState).
    with_blocks v (next_written v.blocks (number_of (next_unit v c.args.sequence c.args.piece.now).header.checksum))) c.self.view_is
