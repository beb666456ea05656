-- The superblock of a copy names the last block of its trailer, as the grid does.
use Rattle.{std.proofs.Common.{◌≡◌, ℕ, zero, suc, List, Option, Some, None, ap}, df_base.proofs.Laws.{AreBytes-check_of, length-check_of}}
use Rattle.{df_layout.specs.declared.layout.Layout.{Layout}, df_units.{specs.Meaning.{number_of}, proofs.Laws.{one_number}}}
use Rattle.df_format.{specs.{declared.reference.Reference.{Reference}, Message.{Message}, Spelling.{IsCheck, no_checksum}}, proofs.Laws.{no_check}}
use Rattle.{df_grid.specs.{Grid.{GridState}, Table.{last_trailer_block as last_named}}, df_opening.specs.Below.{State, memory}}
use Rattle.df_copy.specs.{declared.target.Target.{Target}, Acts.{IsTrailerWritten}, Targets.{address_of_block, begun_grid, check_of, fields_in, grid_after_piece, grid_with, last_message, pieces_from, reference_pair, sequence_of, superblock_of, text_with, trailer_of}, Tests.{trailer_blocks, trailer_size}, Trailers.{NamesLast, with_trailer}, Units.{moved_from}}

-- a checksum that was made is one
pub last_check : (g : GridState) (sequence : ℕ) (text : List ℕ) (n : ℕ) → IsCheck (check_of (last_message (pieces_from g sequence text n)))
last_check g sequence text zero = no_check
last_check g sequence text (suc zero) = record { size = length-check_of _; each = AreBytes-check_of _ }
last_check g sequence text (suc (suc n)) = last_check (grid_after_piece g sequence text) sequence text (suc n)

-- what is named is that block
named_is : (o : Option Message) (r : Reference) → NamesLast (reference_pair o) r
    → IsCheck r.checksum → IsCheck (check_of o) → (r.address ≡ address_of_block o) × (r.checksum ≡ check_of o)
named_is None r names given made = names
named_is (Some u) r names given made = let both : (r.address, number_of r.checksum) ≡ (u.header.op, number_of u.header.checksum) = cc in
    (ap (λ (x : ℕ × ℕ). x.0) both, one_number r.checksum u.header.checksum given made (ap (λ (x : ℕ × ℕ). x.1) both))

pub named_super : (layout : Layout) (s : State) (rs bs : List Message) (t : Target) (r : Reference) (size : ℕ) → IsTrailerWritten layout s
    rs bs t → NamesLast (last_named t.grid.blocks.left t.grid.blocks.written) r → IsCheck r.checksum → size ≡ trailer_size layout (memory s)
    → with_trailer r size (fields_in t.layout s.fields t.checks) ≡ superblock_of layout s rs bs
named_super layout s rs bs t r size is names given long =
    let last : Option Message = last_message (trailer_of layout s (moved_from 1 bs)) in
    let named = named_is last r (rw is.last at names) given (last_check (begun_grid (grid_with layout s.file.cluster (moved_from 1 bs)) s.fields.boot (trailer_blocks layout (memory s))) (sequence_of s) (text_with layout s (moved_from 1 bs)) (trailer_blocks layout (memory s))) in
    λ i. record (fields_in
    (is.layout_is i) s.fields (is.checks i)) { trailer_address = named.0 i; trailer_checksum = named.1 i; trailer_size = long i }

-- zeros name none
pub none_is_named : (o : Option (ℕ × ℕ)) (r : Reference) → None ≡ o → (r.address ≡ 0) × (r.checksum ≡ no_checksum) → NamesLast o r
none_is_named o r none zeros = rw (← none) zeros
