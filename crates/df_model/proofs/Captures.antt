-- What was captured goes on by an append, by a reply and by a boot update: the checkpoint is the same but for its boot, and so is the front
-- of the tail.
use Rattle.std.proofs.Common.{◌≡◌, ℕ, ◌+◌, ◌-◌, ◌≤◌, List, [], ◌∷◌, length, take, Option, refl, sym, ◌∙◌, ap}
use Rattle.df_theory.specs.{Units.{Block, Content, Message, Parts}, Sessions.{sessions_after}, Tails.{EndsAt, last_checksum}, Trailer.{Links, piece_size}, Shape.{Shape}, View.{View}}
use Rattle.df_model.specs.{Work.{Running, Work, raised}, Memory.{block_room, last_address, last_sum, memory_of}, Making.{boot_content}, Sense.{IsCapture, draft}}

pub capture_on :
    (sh : Shape) (spell : Parts → List ℕ) (v : View) (r : Running)
    → IsCapture sh spell v r → (tail : List Message) (replies : ℕ) (stored : ℕ → Option Message)
    → take (r.op - v.checkpoint.content.op) tail ≡ take (r.op - v.checkpoint.content.op) v.tail
    → EndsAt r.op tail → r.op ≤ v.checkpoint.content.op + length tail
    → IsCapture sh spell (record { checkpoint = v.checkpoint; tail = tail; replies = replies; stored = stored }) r
capture_on sh spell v r old tail replies stored same ends op_to = record {
  op_from = old.op_from;
  unspent = old.unspent;
  lawful = old.lawful;
  op_to = op_to;
  ends = ends;
  count = old.count;
  links = old.links;
  op_checksum = old.op_checksum ∙ ap (last_checksum v.checkpoint.content.op_checksum) (sym same);
  sessions = old.sessions ∙ ap (sessions_after v.checkpoint.parts.sessions) (sym same);
  text = old.text;
  written = old.written;
  left = old.left;
}

-- the links of a chain speak of the sequence and the size alone
pub same_links : (room : ℕ) (c d : Content) (chain : List (ℕ × Block)) (address checksum : ℕ)
    → c.sequence ≡ d.sequence → c.trailer_size ≡ d.trailer_size → Links room c chain address checksum → Links room d chain address checksum
same_links room c d [] address checksum sequence size links = links
same_links room c d (x ∷ xs) address checksum sequence size links =
    (links.0, links.1, links.2, links.3 ∙ sequence, links.4, links.5 ∙ ap (λ (n : ℕ). piece_size room n (length xs)) size, links.6, same_links room c d xs x.1.before x.1.before_checksum sequence size links.7)

pub capture_raised : (sh : Shape) (spell : Parts → List ℕ) (w : Work) (sum : ℕ) (r : Running)
    → IsCapture sh spell w.view r → IsCapture sh spell (raised w (boot_content (memory_of sh spell w) sum)).view r
capture_raised sh spell w sum r old = let links = same_links (block_room sh.layout) (draft sh spell w.view r) (draft sh spell (raised
    w (boot_content (memory_of sh spell w) sum)).view r) r.written (last_address r.written) (last_sum r.written) refl refl old.links in
    record { op_from = old.op_from; op_to = old.op_to; ends = old.ends; op_checksum = old.op_checksum; sessions = old.sessions; unspent = old.unspent; lawful = old.lawful; count = old.count; links = links; text = old.text; written = old.written; left = old.left }
