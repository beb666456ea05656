-- What a line says, from its words.
use Rattle.std.{proofs.Common.{◌≡◌, inl, inr, ℕ, ◌<◌, if◌then◌else◌, List, [], ◌∷◌, ◌++◌, length, refl, sym, ap, ◌∙◌, arith}, specs.{Prelude.{codes}, Str.{bytes_eq}}}
use Rattle.df_lines.{specs.{Grammar.{Said, Append, Stage, Flush, Reply, Block, Release, Checkpoint, Step, Prepare, Lookup, Read, Scrub, Recent, SaysLine}, Words.{Cuts}}, proofs.Naming.{Begun, bare_name, cut_name}}

-- ---- the first word

-- the word by which a line is known
abbrev pub name_of : Said → List ℕ
name_of (Append client request body) = codes "append"
name_of (Stage client request body) = codes "stage"
name_of Flush = codes "flush"
name_of (Reply op body) = codes "reply"
name_of (Block kind body) = codes "block"
name_of (Release address) = codes "release"
name_of (Checkpoint body) = codes "checkpoint"
name_of Step = codes "step"
name_of (Prepare op) = codes "prepare"
name_of (Lookup client) = codes "lookup"
name_of (Read address) = codes "read"
name_of Scrub = codes "scrub"
name_of Recent = codes "recent"

-- the first number of a line, the second one, and its body
abbrev pub first_of : Said → ℕ
first_of (Append client request body) = client
first_of (Stage client request body) = client
first_of (Reply op body) = op
first_of (Block kind body) = kind
first_of (Release address) = address
first_of (Prepare op) = op
first_of (Lookup client) = client
first_of (Read address) = address
first_of said = 0

abbrev pub second_of : Said → ℕ
second_of (Append client request body) = request
second_of (Stage client request body) = request
second_of said = 0

abbrev pub body_of : Said → List ℕ
body_of (Append client request body) = body
body_of (Stage client request body) = body
body_of (Reply op body) = body
body_of (Block kind body) = body
body_of (Checkpoint body) = body
body_of said = []

-- the line of this name with these numbers and this body
abbrev pub line_named : List ℕ → ℕ → ℕ → List ℕ → Said
line_named name first second body = if bytes_eq name (codes "append") then Append first second body
    else if bytes_eq name (codes "stage") then Stage first second body else if bytes_eq name (codes "flush") then Flush
    else if bytes_eq name (codes "reply") then Reply first body else if bytes_eq name (codes "block") then Block first body
    else if bytes_eq name (codes "release") then Release first else if bytes_eq name (codes "checkpoint") then Checkpoint body
    else if bytes_eq name (codes "prepare") then Prepare first else if bytes_eq name (codes "lookup") then Lookup first
    else if bytes_eq name (codes "read") then Read first else if bytes_eq name (codes "scrub") then Scrub
    else if bytes_eq name (codes "recent") then Recent else Step

-- a line's name says which line it is
pub is_named : (said : Said) (name : List ℕ) → name ≡ name_of said → said ≡ line_named name (first_of said) (second_of said) (body_of said)
is_named (Append client request body) name is = rw is refl
is_named (Stage client request body) name is = rw is refl
is_named Flush name is = rw is refl
is_named (Reply op body) name is = rw is refl
is_named (Block kind body) name is = rw is refl
is_named (Release address) name is = rw is refl
is_named (Checkpoint body) name is = rw is refl
is_named Step name is = rw is refl
is_named (Prepare op) name is = rw is refl
is_named (Lookup client) name is = rw is refl
is_named (Read address) name is = rw is refl
is_named Scrub name is = rw is refl
is_named Recent name is = rw is refl

pub begun : (line : List ℕ) (said : Said) → SaysLine line said → Begun line (name_of said)
begun line (Append client request body) says = record { rest = _; is = inr says.is; word = refl }
begun line (Stage client request body) says = record { rest = _; is = inr says.is; word = refl }
begun line Flush says = record { rest = []; is = inl says.is; word = refl }
begun line (Reply op body) says = record { rest = _; is = inr says.is; word = refl }
begun line (Block kind body) says = record { rest = _; is = inr says.is; word = refl }
begun line (Release address) says = record { rest = _; is = inr says.is; word = refl }
begun line (Checkpoint body) says = record { rest = _; is = inr says.is; word = refl }
begun line Step says = record { rest = []; is = inl says.is; word = refl }
begun line (Prepare op) says = record { rest = _; is = inr says.is; word = refl }
begun line (Lookup client) says = record { rest = _; is = inr says.is; word = refl }
begun line (Read address) says = record { rest = _; is = inr says.is; word = refl }
begun line Scrub says = record { rest = []; is = inl says.is; word = refl }
begun line Recent says = record { rest = []; is = inl says.is; word = refl }

some_name : (said : Said) → 0 < length (name_of said)
some_name (Append client request body) = omega arith
some_name said = omega arith

pub nothing_said : (said : Said) → SaysLine [] said → ⊥
nothing_said said says = omega (arith, ap length (bare_name [] (name_of said) refl (begun [] said says)), some_name said)

-- a line of this name is the one that the name stands for
pub only : (line name words known : List ℕ) → Cuts line name words → name ≡ known → ((first second : ℕ) (body : List ℕ)
    → SaysLine (known ++ (32 ∷ words)) (line_named known first second body) → ⊥) → (said : Said) → SaysLine line said → ⊥
only line name words known cuts is none said says =
    let same = is_named said known (sym is ∙ cut_name line name words (name_of said) cuts (begun line said says)) in
    let whole : line ≡ known ++ (32 ∷ words) = cuts.whole ∙ ap (λ (l : List ℕ). l ++ (32 ∷ words)) is in
    none (first_of said) (second_of said) (body_of said) (rw same at (rw whole at says))
