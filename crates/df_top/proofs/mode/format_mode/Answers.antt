-- Where the layout or the cluster is missing the words have no meaning.
use Rattle.df_top.proofs.Modes.{only_format}
use Rattle.df_top.proofs.mode.format_mode.Goals as goal

pub returns-in_err-layout-clause-none : goal.returns-in_err-layout-clause-none
returns-in_err-layout-clause-none c =
    rw c.from_residual.ensures (only_format _ _ (λ layout n names is fits. c.in_err-layout.ensures.none layout names))
