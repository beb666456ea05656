-- A whole tour is the machine's, and what is kept of the file goes on after it: the view, the blocks and the log are the same.
use Rattle.{std.proofs.Common.{◌≡◌, ◌∙◌, ℕ, ◌++◌, List, length, Option, Some, None, refl, sym, ap, subst}, df_disk.specs.Told.{Told}}
use Rattle.{df_layout.specs.declared.damage.Finding.{Finding}, df_grid.specs.Grid.{GridState}}
use Rattle.df_theory.specs.{Device.{units_log}, Shape.{Shape}, UnitLog.{UnitLog}, Units.{Parts}}
use Rattle.df_model.{specs.{After.{newest}, Laws.{IsKeptBy}, Memory.{referenced_of}, Reading.{IsTour}, Sense.{IsBacked, IsWork}, Work.{Work, first_tour}}, proofs.Laws.{tour_keeps, tour_law, newest_few}}
use Rattle.df_grid.specs.Grid as grid
use Rattle.df_opening.specs.Below.{Represents, State, memory, shape, spelling}
use Rattle.df_replica.specs.{Answering.{ServesTour}, Reading.{shown_of}, Scrubbing.{TellsTour, at_start, toured, work_toured}, Serving.{Firm, Grade, Keeps, KeptFor, Whole, format}, WrittenFor.{WritesOn}}

-- ---- a tour is no matter of blocks

module _ (w : Work) (list : List Finding) where
  abbrev u : Work
  u = work_toured w list

  sense_behind : (sh : Shape) (spell : Parts → List ℕ) → IsWork sh spell w → IsWork sh spell u
  sense_behind sh spell = tour_keeps sh spell w first_tour (newest (w.findings ++ list)) (newest_few (w.findings ++ list))

  kept_behind : (sh : Shape) (spell : Parts → List ℕ) (log : UnitLog) → IsKeptBy sh spell log w → IsKeptBy sh spell log u
  kept_behind sh spell log by = record { sense = sense_behind sh spell by.sense; tidy = by.tidy; written = by.written }

  backed_behind : (log : UnitLog) → IsBacked log w → IsBacked log u
  backed_behind log backed = record { standing = backed.standing; live = backed.live; captured = backed.captured }

  kept_for : (g : Grade) (sh : Shape) (spell : Parts → List ℕ) (log : UnitLog) → KeptFor g sh spell log w → KeptFor g sh spell log u
  kept_for Firm sh spell log by = kept_behind sh spell log by
  kept_for Whole sh spell log by = (kept_behind sh spell log by.0, backed_behind log by.1)

-- ---- what is kept goes on

stands_behind : (s : State) (w : Work) (list : List Finding) → Represents s w → Represents (toured s list) (work_toured w list)
stands_behind s w list rep = λ i. record (rep i) { tour = first_tour; findings = newest ((rep i).findings ++ list) }

keeps_behind : (s : State) (told : Option Told) (list : List Finding) (g : Grade) (w : Work)
    → Keeps g s w told → Keeps g (toured s list) (work_toured w list) told
keeps_behind s None list g w k = (sense_behind w list (shape s.file) (spelling s.file) k.0, stands_behind s w list k.1)
keeps_behind s (Some t) list g w k = record {
  log_is = k.log_is;
  stands = stands_behind s w list k.stands;
  kept_by = kept_for w list g (shape s.file) (spelling s.file) (units_log (format s.file) t.log) k.kept_by;
  ring = k.ring;
}

-- what was written of the state was of the one after the tour
written_behind : (s : State) (told : Option Told) (list : List Finding) (w : Work) → WritesOn s.file told told w (work_toured w list)
written_behind s None list w was = tt
written_behind s (Some t) list w was = record { view = was.view; trailer = was.trailer }

-- ---- the machine's tour

tells : (s : State) (told : Option Told) → TellsTour s told
tells s None = tt
tells s (Some t) = λ codec w work rep.
    subst (λ (xs : List (ℕ × ℕ)). IsTour (shape s.file) codec (shown_of s.file t.shown) (at_start w) xs) (sym (ap referenced_of rep))
    (tour_law (shape s.file) codec (shown_of s.file t.shown) (at_start w) refl work.few)

pub tour_serves : (s : State) (told : Option Told) (list : List Finding) → ServesTour s told list
tour_serves s told list =
    record { machine = tells s told; keeps = λ g w base k. keeps_behind s base list g w k; written = written_behind s told list }

-- ---- how many there are

pub counted : (s : State) (g : GridState) (n : ℕ)
    → n ≡ length (grid.referenced_of g) → g.layout ≡ s.file.layout → g.blocks ≡ s.blocks → n ≡ length (referenced_of (memory s))
counted s g n is layout blocks = is ∙ (λ i. length (grid.referenced_of (record g { layout = layout i; blocks = blocks i })))
