-- What `memchr` finds is the first end of a line.
use Rattle.df_lines.proofs.Feeds.{first_feed_is}
use Rattle.df_lines.proofs.window.first_feed.Goals as goal

pub returns : goal.returns
returns c = first_feed_is _ _ c.memchr.ensures
