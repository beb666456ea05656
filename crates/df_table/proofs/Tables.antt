-- An image and a view have one table, and a file that was just made has the empty one.
use Rattle.{std.proofs.Common.{◌≡◌, ℕ, List, [], ◌∷◌, Some, None, refl, sym, ◌∙◌, ap, arith}, df_model.specs.Blocks.{addresses, entries}}
use Rattle.df_rows.{specs.{declared.command.Command.{Command}, Blocks.{TakesAll}, Tables.{Table, with_command, with_commands}}, proofs.Laws.{one_command, one_table}}
use Rattle.df_session.specs.Below.{DataFile, shape}
use Rattle.df_theory.specs.{Units.{AnyUnit, Block, BlockPlace, BlockUnit, Message, Place}, View.{View}}
use Rattle.df_table.specs.{Laws.{FirstIsEmpty, TableIsOne}, Table.{FollowAll, HasBlockBody, HaveBodies, IsTableBy, ShowsBodies, empty_table, references_of}}

-- ---- blocks

-- where one checksum at an address is one block
abbrev pub OneBlock : (Place → AnyUnit → Type 0) → Type 0
OneBlock At = (a : ℕ) (b c : Block) → At (BlockPlace a) (BlockUnit b) → At (BlockPlace a) (BlockUnit c) → b.checksum ≡ c.checksum → b ≡ c

one_block : (b c : Block) → Some (BlockUnit b) ≡ Some (BlockUnit c) → b ≡ c
one_block b c is = cc

one_shown : (At : Place → AnyUnit → Type 0) → OneBlock At → (x : ℕ × ℕ) (a b : List ℕ) → HasBlockBody At x a → HasBlockBody At x b → a ≡ b
one_shown At alone x a b one two =
    sym one.body_is ∙ ap (λ (c : Block). c.body) (alone x.0 one.block two.block one.there two.there (one.sum ∙ sym two.sum)) ∙ two.body_is

same_bodies : (a b : List ℕ) (one other : List (List ℕ)) → a ≡ b → one ≡ other → a ∷ one ≡ b ∷ other
same_bodies a b one other same more = cc

one_bodies : (At : Place → AnyUnit → Type 0) → OneBlock At
    → (references : List (ℕ × ℕ)) (one other : List (List ℕ)) → HaveBodies At references one → HaveBodies At references other → one ≡ other
one_bodies At alone [] [] [] first second = refl
one_bodies At alone [] [] (b ∷ other) first second = absurd second
one_bodies At alone [] (a ∷ one) other first second = absurd first
one_bodies At alone (x ∷ more) [] other first second = absurd first
one_bodies At alone (x ∷ more) (a ∷ one) [] first second = absurd second
one_bodies At alone (x ∷ more) (a ∷ one) (b ∷ other) first second =
    same_bodies a b one other (one_shown At alone x a b first.0 second.0) (one_bodies At alone more one other first.1 second.1)

-- ---- commands

same_commands : (c d : Command) (one other : List Command) → c ≡ d → one ≡ other → c ∷ one ≡ d ∷ other
same_commands c d one other same more = cc

one_list : (t : Table) (ps : List Message) (one other : List Command) → FollowAll t ps one → FollowAll t ps other → one ≡ other
one_list t [] [] [] first second = refl
one_list t [] [] (d ∷ other) first second = absurd second
one_list t [] (c ∷ one) other first second = absurd first
one_list t (p ∷ ps) [] other first second = absurd first
one_list t (p ∷ ps) (c ∷ one) [] first second = absurd second
one_list t (p ∷ ps) (c ∷ one) (d ∷ other) first second =
    let same : c ≡ d = one_command c d first.0.fits second.0.fits (sym first.0.body_is ∙ second.0.body_is) in
    same_commands c d one other same (one_list (with_command c t) ps one other first.1 (rw (sym same) at second.1))

-- ---- the table

pub one_table_by : (At : Place → AnyUnit → Type 0)
    → OneBlock At → (file : DataFile) (v : View) (t u : Table) → IsTableBy At file v t → IsTableBy At file v u → t ≡ u
one_table_by At alone file v t u one two =
    let bodies = one_bodies At alone (references_of file v) one.bodies two.bodies one.there two.there in
    let base = one_table (empty_table file.layout) one.base two.base one.bodies one.rows (rw (sym bodies) at two.rows) in
    let commands = one_list one.base v.tail one.commands two.commands one.tail (rw (sym base) at two.tail) in
    one.is ∙ ap (λ (l : List Command). with_commands l one.base) commands ∙ ap (λ (b : Table). with_commands two.commands b) base ∙ sym two.is

pub table_is_one : TableIsOne
table_is_one file image v t u one two =
    one_table_by (λ place unit. image place ≡ Some unit) (λ a b c first second sum. one_block b c (sym first ∙ second)) file v t u one two

-- nothing is referenced
none_referenced : (xs : List ℕ) → entries (λ a. None) xs ≡ []
none_referenced [] = refl
none_referenced (a ∷ xs) = none_referenced xs

pub first_is_empty : FirstIsEmpty
first_is_empty file image = record {
  bodies = [];
  there = rw ((none_referenced (addresses (shape file).layout))) tt;
  few = omega arith;
  base = empty_table file.layout;
  rows = refl;
  commands = [];
  tail = tt;
  is = refl;
}
