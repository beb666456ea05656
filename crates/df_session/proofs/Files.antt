-- What is found of an image is of one file, whatever layout and cluster it is looked for with: those of the superblock that is chosen.
use Rattle.{std.proofs.Common.{◌≡◌, ℕ, sym, ◌∙◌, ap}, df_base.specs.Image.{Image}, df_units.specs.{Bytes.{unit_at}, Meaning.{layout_of}}}
use Rattle.df_layout.{specs.declared.layout.Layout.{Layout}, proofs.Laws.{same_layout}}
use Rattle.df_theory.{specs.{Copies.{IsChosen}, Found.{IsFound}, Units.{Content}, View.{View}}, proofs.Laws.{one_chosen_law}}
use Rattle.df_theory.specs.Units
use Rattle.df_replica.{specs.Below.{DataFile, shape}, proofs.Laws.{same_file}}

-- what is chosen among the copies is no matter of the file
chosen_for : (layout other : Layout) (cluster another : ℕ) (image : Image) (c : Content)
    → IsChosen (unit_at layout cluster image) c → IsChosen (unit_at other another image) c
chosen_for layout other cluster another image c is = record {
  agreed = record { first = is.agreed.first; second = is.agreed.second; apart = is.agreed.apart; inside = is.agreed.inside; at_first = is.agreed.at_first; at_second = is.agreed.at_second };
  greatest = λ d agree. is.greatest d (record { first = agree.first; second = agree.second; apart = agree.apart; inside = agree.inside; at_first = agree.at_first; at_second = agree.at_second });
  lowest = λ d agree rank n low at. is.lowest d (record { first = agree.first; second = agree.second; apart = agree.apart; inside = agree.inside; at_first = agree.at_first; at_second = agree.at_second }) rank n low at;
}

-- so views that are found for two files are found for one
pub found_file : (file own : DataFile) (layout : Layout) (image : Image) (view other : View) → IsFound
    (shape file) (unit_at file.layout file.cluster image) view → IsFound (shape own) (unit_at layout own.cluster image) other → own ≡ file
found_file file own layout image view other found is = let chosen : IsChosen (unit_at layout own.cluster image) view.checkpoint.content =
    chosen_for file.layout layout file.cluster own.cluster image view.checkpoint.content found.chosen in
    let one : other.checkpoint.content ≡ view.checkpoint.content =
    one_chosen_law (unit_at layout own.cluster image) other.checkpoint.content view.checkpoint.content is.chosen chosen in
    let numbers : layout_of own.layout ≡ layout_of file.layout =
    sym is.checkpoint.tests.layout ∙ ap (λ (c : Content). c.layout) one ∙ found.checkpoint.tests.layout in
    let same : own.layout ≡ file.layout =
    same_layout own.layout file.layout (ap (λ (l : Units.Layout). l.slots) numbers) (ap (λ (l : Units.Layout). l.message_size) numbers)
    (ap (λ (l : Units.Layout). l.clients) numbers) (ap (λ (l : Units.Layout). l.block_size) numbers)
    (ap (λ (l : Units.Layout). l.blocks) numbers) in
    same_file own file same (sym is.checkpoint.tests.cluster ∙ ap (λ (c : Content). c.cluster) one ∙ found.checkpoint.tests.cluster)
    (sym is.checkpoint.tests.version ∙ ap (λ (c : Content). c.version) one ∙ found.checkpoint.tests.version)
