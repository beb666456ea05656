use Rattle.df_theory.proofs.Headline.{clean_start_law}
use Rattle.df_theory.proofs.writers.clean_image_begins.Goals as goal

pub returns : goal.returns
returns c = clean_start_law
