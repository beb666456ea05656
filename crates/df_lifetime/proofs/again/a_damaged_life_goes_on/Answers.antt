-- The laws are proved.
use Rattle.df_lifetime.proofs.{Agains.{every_life_is_lived, every_open_finds_since, life_begins_anew, runs_keep_since, upgraded_may_be_damaged}, Others.{other_words_leave_it}}
use Rattle.df_lifetime.proofs.again.a_damaged_life_goes_on.Goals as goal

pub returns-clause-upgraded : goal.returns-clause-upgraded
returns-clause-upgraded c = upgraded_may_be_damaged

pub returns-clause-lived : goal.returns-clause-lived
returns-clause-lived c = every_life_is_lived

pub returns-clause-since : goal.returns-clause-since
returns-clause-since c = every_open_finds_since

pub returns-clause-anew : goal.returns-clause-anew
returns-clause-anew c = life_begins_anew

pub returns-clause-runs : goal.returns-clause-runs
returns-clause-runs c = runs_keep_since

pub returns-clause-others : goal.returns-clause-others
returns-clause-others c = other_words_leave_it
