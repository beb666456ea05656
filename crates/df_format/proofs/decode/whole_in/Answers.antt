use Rattle.std.proofs.{Common.{arith, sym, ◌∙◌}, lemmas.{Bool.{both_ways, leb-true, ne_eqb}, List.{length-take-le}}}
use Rattle.df_format.proofs.{Spelled.{read_as}, Wholes.{fits_slot, least_size, place_is_slot}, decode.whole_in.Goals.{then-header-cluster, else-header-cluster}}
use Rattle.df_format.proofs.decode.whole_in.Goals as goal

pub slice_bounds-decode_header-end : goal.slice_bounds-decode_header-end
slice_bounds-decode_header-end c =
    sym (length-take-le 256 c.args.bytes.now (omega (arith, c.requires, least_size c.args.layout.now c.args.zone)))

pub decode_header-requires : goal.decode_header-requires
decode_header-requires c = length-take-le 256 c.args.bytes.now (omega (arith, c.requires, least_size c.args.layout.now c.args.zone))

pub has_body-is_unit-requires-clause-least : goal.has_body-is_unit-requires-clause-least
has_body-is_unit-requires-clause-least c = (read_as _ c.in_ok-header.header (sym c.in_ok-header.ensures)).ranges.size

pub has_body-is_unit-requires-clause-fits : goal.has_body-is_unit-requires-clause-fits
has_body-is_unit-requires-clause-fits c other = elim c.if-header-cluster.branch [
  | then-header-cluster w ↦ let small = leb-true _ _ (sym w.value-is ∙ c.if-header-greatest_size.true) in let layout = c.args.layout.now in
      omega (arith, small, w.greatest_size.ensures, c.requires, fits_slot layout c.args.zone other, place_is_slot layout c.args.zone other)
  | else-header-cluster w ↦ absurd (both_ways _ (w.value-is ∙ ne_eqb _ _ w.if-header-cluster.false) c.if-header-greatest_size.true)
]
