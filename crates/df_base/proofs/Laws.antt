-- What the proofs above cite of this crate's: plain facts that std doesn't have, the bytes of fields, texts of pieces, whole sectors,
-- moments, and what a sink has taken.
pub use Rattle.df_base.proofs.Plain.{and_false, same_test, not_zero, either_same, cond_there, split_n, none_passes, get_set, get_set_other, zero_plus, minus_zero, plus_zero, suc_minus}
pub use Rattle.df_base.proofs.Plain.{suc_plus, plus_suc, times_suc, over_one, some_number, or_false, same_bit, one_some, no_some, no_elements, same_front}
pub use Rattle.df_base.proofs.FieldBytes.{AreBytes-nil, AreBytes-cons, AreBytes-append, AreBytes-take, AreBytes-drop, AreBytes-zeros, byte_at-lt}
pub use Rattle.df_base.proofs.FieldBytes.{length-check_of, AreBytes-check_of, length-spelled, AreBytes-spelled, field_spelled, field_at-lt, spelled-field_at}
pub use Rattle.df_base.proofs.{FieldMoves.{field_front, field_moved, bits_of_bytes}, Sinks.{appends_more, appends_part, part_of_more}}
pub use Rattle.df_base.proofs.Images.{blank_is_image, written_is_image, written_else, changed_is_image, now_is_image}
pub use Rattle.df_base.proofs.Goes.{AtEach, same_log, extends_self, extends_add, extends_on, adds_extends, adds_on, started, more, weaker, from_before, at_weaker, stands, goes_on}
pub use Rattle.df_base.proofs.Text.{piece, past, number_behind, so_none, so_many_zeros, so_spelled, so_check, so_both, so_text, text-append, behind, read_back, spelled_back, fit_back, written}
