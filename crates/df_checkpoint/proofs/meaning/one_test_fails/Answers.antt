-- What is shown has one chain and one text, and a test is made once those before it passed.
use Rattle.df_checkpoint.proofs.OneTest.{one_test}
use Rattle.df_checkpoint.proofs.meaning.one_test_fails.Goals as goal

pub returns : goal.returns
returns c = one_test
