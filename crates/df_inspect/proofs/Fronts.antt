-- The line of a message or a block is its front and its body.
use Rattle.std.proofs.{Common.{◌≡◌, ℕ, ◌==◌, Bool, false, List, [], ◌∷◌, ◌++◌, length, codes, refl, sym, ◌∙◌, append_assoc}, lemmas.Bool.{true≢false}}
use Rattle.{hex.specs.Hex.{encode_lower}, df_format.specs.declared.header.Header.{Header}}
use Rattle.df_script_model.specs.Texts.{body_text, line_of, numbered, spaced}
use Rattle.df_inspect.specs.Messages.{block_front, message_front, shown_block, shown_text}

six_pieces : (a b c d e t : List ℕ) → line_of (spaced a (spaced b (spaced c (spaced d (spaced e (spaced (codes "body") t))))))
    ≡ spaced a (spaced b (spaced c (spaced d (spaced e (codes "body "))))) ++ line_of t
six_pieces a b c d e t = simp append_assoc

pub front_and_body : (word : List ℕ) (h : Header) (body : List ℕ) → shown_text word h body ≡ message_front word h ++ line_of (body_text body)
front_and_body word h body = six_pieces (numbered word h.op) (numbered (codes "client") h.client)
    (numbered (codes "request") h.request) (numbered (codes "mark") h.mark) (numbered (codes "checkpoint") h.checkpoint) (body_text body)

-- some bytes are shown by their digits
pub digits_shown : (body : List ℕ) (empty : Bool) → empty ≡ (length body == 0) → empty ≡ false → body_text body ≡ encode_lower body
digits_shown [] empty is some = absurd (true≢false (sym is ∙ some))
digits_shown (b ∷ body) empty is some = refl

three_pieces : (a b t : List ℕ) → line_of (spaced a (spaced b (spaced (codes "body") t))) ≡ spaced a (spaced b (codes "body ")) ++ line_of t
three_pieces a b t = simp append_assoc

pub block_and_body : (address : ℕ) (h : Header) (body : List ℕ) → shown_block address h body ≡ block_front address h ++ line_of (body_text body)
block_and_body address h body = three_pieces (numbered (codes "block") address) (numbered (codes "kind") h.block_kind) (body_text body)
