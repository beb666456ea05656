-- The boot that is set is that of the superblock that was written, and what is after it makes sense.
use Rattle.{std.proofs.Common.{◌≡◌, ◌∙◌, ◌+◌, ℕ, true, ap, subst, sym, arith}, df_grid.specs.Grid.{GridState}}
use Rattle.df_format.specs.{SuperRules.{IsUsable}, declared.superblock.SuperFields.{SuperFields}}
use Rattle.df_damage.specs.Below.{FitsGrid, IsState, State, state_in}
use Rattle.df_opening.proofs.{RaisedState.{raised_sense}, Refused.{unharmed_fault, unharmed_of, unharmed_ok}}
use Rattle.df_opening.proofs.mending.raise_parts.Goals as goal

pub set_boot-requires : goal.set_boot-requires
set_boot-requires g c = let next : c.fields.result.now.boot ≡ c.args.parts.now.content.boot + 1 =
    ap (λ (f : SuperFields). f.boot) (c.fields.ensures.value ∙ c.requires.content) in
    record { boot = (omega (arith, next), omega (arith, next, c.requires.unspent)) }

pub returns-clause-state : goal.returns-clause-state
returns-clause-state g c = let s : State = state_in c.args.parts.now in
    ap (λ (x : GridState). record s { fields = c.args.content; blocks = x.blocks; boot = x.boot; live = true }) c.set_boot.ensures
    ∙ ap (λ (n : ℕ). record s { fields = c.args.content; boot = n; live = true }) (ap (λ (f : SuperFields). f.boot) c.fields.ensures.value)
    ∙ ap (λ (f : SuperFields). record s { fields = f; boot = f.boot; live = true }) c.requires.content

pub returns-clause-whole : goal.returns-clause-whole
returns-clause-whole g c = let s : State = state_in c.args.parts.now in let old = c.requires.whole in record {
  state = subst IsState (sym (returns-clause-state g c)) (raised_sense s old.state (subst IsUsable c.requires.content c.fields.ensures.usable));
  rooms = old.rooms;
  grid = subst (λ (x : GridState). FitsGrid s.file x.layout x.cluster) (sym c.set_boot.ensures) old.grid;
}

pub returns-clause-does : goal.returns-clause-does
returns-clause-does g c = record {
  events = c.in-Ok.ensures.events;
  read_back = c.in-Ok.ensures.read_back;
  unharmed = unharmed_ok {T = Unit {0}} (g.D.Disk.told c.update.new.disk) tt;
}

pub returns-in-Err-Damaged-clause-does : goal.returns-in-Err-Damaged-clause-does
returns-in-Err-Damaged-clause-does g c = record {
  events = grind arith;
  read_back = grind arith;
  unharmed = unharmed_of (Unit {0}) _ (g.D.Disk.told c.update.new.disk) c.in-Err-Damaged.field-0
      c.in-Err-Damaged.place _ c.in-Err-Damaged.class _ c.in-Err-Damaged.field-0-is c.in-Err-Damaged.ensures.undamaged;
}

pub returns-in-Err-DiskFault-clause-does : goal.returns-in-Err-DiskFault-clause-does
returns-in-Err-DiskFault-clause-does g c = record {
  events = grind arith;
  read_back = tt;
  unharmed = unharmed_fault _ (g.D.Disk.told c.update.new.disk);
}
