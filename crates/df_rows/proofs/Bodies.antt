-- The bodies of commands.
use Rattle.std.proofs.{Common.{◌≡◌, ℕ, ◌+◌, ◌≤◌, List, [], ◌∷◌, ◌++◌, length, drop, refl, ap, ◌∙◌, arith, length-append}, lemmas.List.{take_all, take-append-drop}}
use Rattle.df_base.{specs.Fields.{AreBytes, field_at, spelled}, proofs.Laws.{length-spelled, spelled-field_at}}
use Rattle.df_rows.{specs.{declared.command.Command.TheVariants.{Put, Drop}, Rows.{Entry, IsEntry}, Commands.{applied}, Laws.{InTurn, OneCommand}}, proofs.Entries.{key_split, one_key, same_entry}}

-- ---- a body is one command

pub one_command : OneCommand
one_command (Put e) (Put f) is other same = let parts = key_split e.0 f.0 e.1 f.1 is.key other.key (cc same) in
    ap Put (same_entry e f parts.0 parts.1)
one_command (Put e) (Drop k) is other same = absurd (cc same)
one_command (Drop k) (Put f) is other same = absurd (cc same)
one_command (Drop k) (Drop l) is other same = ap Drop (one_key k l is other (cc same))

-- ---- commands in turn

pub in_turn : InTurn
in_turn [] more rows = refl
in_turn (command ∷ some) more rows = in_turn some more (applied command rows)

-- ---- a body that is read

-- the key in front, and what stands after it
pub key_read : (rest : List ℕ) → AreBytes rest → 16 ≤ length rest → spelled 16 (field_at 16 0 rest) ++ drop 16 rest ≡ rest
key_read rest are long = ap (λ (l : List ℕ). l ++ drop 16 rest) (spelled-field_at 16 0 rest are (omega arith)) ∙ take-append-drop 16 rest

pub key_alone : (rest : List ℕ) → AreBytes rest → length rest ≡ 16 → spelled 16 (field_at 16 0 rest) ≡ rest
key_alone rest are size = spelled-field_at 16 0 rest are (omega arith) ∙ take_all 16 rest (omega arith)

-- how long the body of a put is after its first byte
pub put_length : (rest : List ℕ) (e : Entry) → IsEntry e → rest ≡ spelled 16 e.0 ++ e.1 → (16 ≤ length rest) × (length rest ≤ 63)
put_length rest e is same =
    let size : length rest ≡ 16 + length e.1 = ap length same ∙ omega (arith, length-append (spelled 16 e.0) e.1, length-spelled 16 e.0) in
    (omega arith, omega (arith, is.value))
