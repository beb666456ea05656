-- The draws of seed 42, computed from the definitions.
use Rattle.{std.proofs.Common.{◌≡◌, [], ◌∷◌, refl, ◌+◌}, df_workload.specs.Draw.{body_length, first_number, next_number}}

first_draw : next_number (first_number 42) ≡ 1250496027
first_draw = refl

second_draw : next_number 1250496027 ≡ 1116302264
second_draw = refl

third_draw : next_number 1116302264 ≡ 1000676753
third_draw = refl

lengths : body_length 1250496027 ∷ body_length 1116302264 ∷ body_length 1000676753 ∷ [] ≡ 649 ∷ 649 ∷ 933 ∷ []
lengths = refl

bytes : body_length 1250496027 + (body_length 1116302264 + body_length 1000676753) ≡ 2231
bytes = refl
