-- What one line of a script says.
use Rattle.std.specs.Prelude.{◌≡◌, ◌⊎◌, ◌<◌, ◌≤◌, ◌^◌, ℕ, List, [], ◌∷◌, ◌++◌, length, take, codes, decimal, Ok, ⊤}
use Rattle.hex.specs.Hex.{decode_of}
use Rattle.df_lines.specs.{Kind.{Grammar}, declared.line.Line.{Line}}
use Rattle.df_lines.specs.declared.line.Line.TheVariants as lines

-- a line, with its body
pub data Said : Type 0 where
  Append : (client request : ℕ) (body : List ℕ) → Said
  Stage : (client request : ℕ) (body : List ℕ) → Said
  Flush : Said
  Reply : (op : ℕ) (body : List ℕ) → Said
  Block : (kind : ℕ) (body : List ℕ) → Said
  Release : (address : ℕ) → Said
  Checkpoint : (body : List ℕ) → Said
  Step : Said
  Prepare : (op : ℕ) → Said
  Lookup : (client : ℕ) → Said
  Read : (address : ℕ) → Said
  Scrub : Said
  Recent : Said

-- the bytes that a body's word stands for: - for none, else two hexadecimal digits of either case for each byte
abbrev pub IsBody : List ℕ → List ℕ → Type 0
IsBody word body = ((word ≡ codes "-") × (body ≡ [])) ⊎ ((0 < length word) × (decode_of word ≡ Ok body))

-- The words of a line, where this word stands for its body. A number is its decimal digits, with no zero before them.
abbrev pub line_words : Said → List ℕ → List (List ℕ)
line_words (Append client request body) word = codes "append" ∷ decimal client ∷ decimal request ∷ word ∷ []
line_words (Stage client request body) word = codes "stage" ∷ decimal client ∷ decimal request ∷ word ∷ []
line_words Flush word = codes "flush" ∷ []
line_words (Reply op body) word = codes "reply" ∷ decimal op ∷ word ∷ []
line_words (Block kind body) word = codes "block" ∷ decimal kind ∷ word ∷ []
line_words (Release address) word = codes "release" ∷ decimal address ∷ []
line_words (Checkpoint body) word = codes "checkpoint" ∷ word ∷ []
line_words Step word = codes "step" ∷ []
line_words (Prepare op) word = codes "prepare" ∷ decimal op ∷ []
line_words (Lookup client) word = codes "lookup" ∷ decimal client ∷ []
line_words (Read address) word = codes "read" ∷ decimal address ∷ []
line_words Scrub word = codes "scrub" ∷ []
line_words Recent word = codes "recent" ∷ []

-- words, with exactly one space between two of them
abbrev pub spaced : List (List ℕ) → List ℕ
spaced [] = []
spaced (word ∷ []) = word
spaced (word ∷ next ∷ more) = word ++ (32 ∷ spaced (next ∷ more))

-- a client is below 2^128, a block's kind below 2^8, any other number below 2^64, and this word stands for the body
abbrev pub FitsLine : Said → List ℕ → Type 0
FitsLine (Append client request body) word = (client < 2 ^ 128) × (request < 2 ^ 64) × IsBody word body
FitsLine (Stage client request body) word = (client < 2 ^ 128) × (request < 2 ^ 64) × IsBody word body
FitsLine Flush word = ⊤
FitsLine (Reply op body) word = (op < 2 ^ 64) × IsBody word body
FitsLine (Block kind body) word = (kind < 2 ^ 8) × IsBody word body
FitsLine (Release address) word = address < 2 ^ 64
FitsLine (Checkpoint body) word = IsBody word body
FitsLine Step word = ⊤
FitsLine (Prepare op) word = op < 2 ^ 64
FitsLine (Lookup client) word = client < 2 ^ 128
FitsLine (Read address) word = address < 2 ^ 64
FitsLine Scrub word = ⊤
FitsLine Recent word = ⊤

-- The words after the name of a line that asks for a request: its client, its number, and the word of its body.
pub record AreRequest (words : List ℕ) (client request : ℕ) (body : List ℕ) : Type 0 where
  pub word : List ℕ
  pub is : words ≡ spaced (decimal client ∷ decimal request ∷ word ∷ [])
  pub fits : (client < 2 ^ 128) × (request < 2 ^ 64) × IsBody word body

-- The words after the name of a line that has a number up to this one, and a body.
pub record AreSized (words : List ℕ) (most n : ℕ) (body : List ℕ) : Type 0 where
  pub word : List ℕ
  pub is : words ≡ spaced (decimal n ∷ word ∷ [])
  pub fits : (n ≤ most) × IsBody word body

-- The line says this. Only numbers' widths bound what a line may say; what a call takes is the call's own matter.
pub record SaysLine (line : List ℕ) (said : Said) : Type 0 where
  pub word : List ℕ
  pub is : line ≡ spaced (line_words said word)
  pub fits : FitsLine said word

-- what was read of a line, with its body at the front of the buffer
abbrev pub said_with : List ℕ → Line → Said
said_with buffer (lines.Append client request n) = Append client request (take n buffer)
said_with buffer (lines.Stage client request n) = Stage client request (take n buffer)
said_with buffer lines.Flush = Flush
said_with buffer (lines.Reply op n) = Reply op (take n buffer)
said_with buffer (lines.Block kind n) = Block kind (take n buffer)
said_with buffer (lines.Release address) = Release address
said_with buffer (lines.Checkpoint n) = Checkpoint (take n buffer)
said_with buffer lines.Step = Step
said_with buffer (lines.Prepare op) = Prepare op
said_with buffer (lines.Lookup client) = Lookup client
said_with buffer (lines.Read address) = Read address
said_with buffer lines.Scrub = Scrub
said_with buffer lines.Recent = Recent

-- how many bytes of the buffer are the line's body
abbrev pub body_length : Line → ℕ
body_length (lines.Append client request n) = n
body_length (lines.Stage client request n) = n
body_length (lines.Reply op n) = n
body_length (lines.Block kind n) = n
body_length (lines.Checkpoint n) = n
body_length line = 0

-- all of this, for a reader
abbrev pub script_lines : Grammar Line
script_lines = record { Said = Said; says = SaysLine; said_with = said_with; body_length = body_length }
