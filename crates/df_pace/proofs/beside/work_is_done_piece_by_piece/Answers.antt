use Rattle.df_pace.proofs.Beats.{fewer_due, line_counts, nothing_due, piece_counts, piece_due, starts_idle, whole_due}
use Rattle.df_pace.proofs.beside.work_is_done_piece_by_piece.Goals as goal

pub returns-clause-whole : goal.returns-clause-whole
returns-clause-whole c = whole_due

pub returns-clause-nothing : goal.returns-clause-nothing
returns-clause-nothing c = nothing_due

pub returns-clause-piece : goal.returns-clause-piece
returns-clause-piece c = piece_due

pub returns-clause-line : goal.returns-clause-line
returns-clause-line c = line_counts

pub returns-clause-counts : goal.returns-clause-counts
returns-clause-counts c = piece_counts

pub returns-clause-fewer : goal.returns-clause-fewer
returns-clause-fewer c = fewer_due

pub returns-clause-starts : goal.returns-clause-starts
returns-clause-starts c = starts_idle
