-- What a replica keeps in memory, live or not: the state that it stands for, its numbers, and how its parts go together.
use Rattle.std.specs.Prelude.{◌≡◌, ◌<◌, ℕ, false, [], None, length}
use Rattle.df_base.specs.declared.TheConstants.{GREATEST}
use Rattle.df_layout.specs.declared.layout.Layout.{Layout}
use Rattle.df_model.specs.declared.answers.Summary.{Summary}
use Rattle.df_scrub.specs.Scrubber.{new_scrub}
use Rattle.df_rooms.specs.{Courses.{running_of}, State.{IsState, State}, declared.file.DataFile.{DataFile}, declared.parts.Parts.{Parts}}

-- the state
abbrev pub state_in : Parts → State
state_in p = record {
  file = p.file;
  fields = p.content;
  root = p.root.items;
  head = p.head;
  head_checksum = p.head_checksum;
  replies = p.replies;
  waiting = p.waiting.items;
  staged = p.staging.requests;
  table = p.sessions;
  headers = p.rooms.headers;
  blocks = p.grid.blocks;
  running = running_of p.running;
  tour = p.scrub.scrubber.tour;
  findings = p.scrub.scrubber.findings;
  boot = p.grid.boot;
  live = p.live;
}

-- the rooms are of this layout
pub record FitRooms (layout log trailer scrub staging : Layout) : Type 0 where
  pub rooms_fit : log ≡ layout
  pub trailer_fits : trailer ≡ layout
  pub scrub_fits : scrub ≡ layout
  pub staging_fits : staging ≡ layout

-- a grid of this layout and cluster is the file's
pub record FitsGrid (file : DataFile) (layout : Layout) (cluster : ℕ) : Type 0 where
  pub grid_fits : layout ≡ file.layout
  pub grid_named : cluster ≡ file.cluster

-- it makes sense, and the rooms and the grid are of the file
pub record AreWhole (p : Parts) : Type 0 where
  pub state : IsState (state_in p)
  pub rooms : FitRooms p.file.layout p.rooms.layout p.trailer.layout p.scrub.layout p.staging.layout
  pub open rooms use *
  pub grid : FitsGrid p.file p.grid.layout p.grid.cluster
  pub open grid use *

-- as a survey finds them: no call may be made yet, the boot can be raised and isn't, nothing is staged, no checkpoint runs, the tour is at its start, and nothing was found
pub record AreFound (p : Parts) : Type 0 where
  pub whole : AreWhole p
  pub dead : p.live ≡ false
  pub unspent : p.content.boot < GREATEST
  pub unbooted : p.grid.boot ≡ 0
  pub unstaged : p.staging.requests ≡ []
  pub idle : p.running ≡ None
  pub fresh : p.scrub.scrubber ≡ new_scrub

-- the numbers of a state, how many sessions there are, and how many blocks the durable checkpoint references
abbrev pub summary_of : State → Summary
summary_of s = record { cluster = s.file.cluster; layout = s.file.layout; sequence = s.fields.sequence; checkpoint_op = s.fields.op; head = s.head; replies = s.replies; sessions = length s.table.sessions; references = length s.blocks.durable }
