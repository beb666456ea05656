-- The superblock that an open wrote records the replies that the file had.
use Rattle.{std.proofs.Common.{◌≡◌, ◌<◌, ◌^◌, inl}, df_base.specs.Image.{Image, IsImage}, df_trailer.specs.Text.{parse_of}}
use Rattle.df_theory.{specs.{Found.{IsFound}, Holds.{Holds}, View.{View, boot_of}}, proofs.Laws.{holds_found, one_found_law}}
use Rattle.df_units.{specs.{Bytes.{unit_at}, Meaning.{layout_of}}, proofs.Laws.{of_places}}
use Rattle.df_model.{specs.{Memory.{memory_of}, Sense.{IsWork}, Supply.{boot_sum}, Work.{Work, kept, opened}}, proofs.Laws.{found_law, raised_law}}
use Rattle.df_session.{specs.{Anew.{begun_after}, Begun.{begun_work}, Below.{DataFile, shape, spelling}, Codec.{codec}, Serving.{Whole}}, proofs.Laws.{codec_of, second_found}}
use Rattle.df_lifetime.{specs.Mirrored.{OpenedShowsRecords, RecordsReplies}, proofs.{Openings.{anew, one, unspent_begun}, Records.{recorded_low}}}

-- the boot update of an open that finds a view records its replies
begun_records : (file : DataFile) (image : Image) (view : View) → file.version ≡ 2 → IsImage image → IsFound
    (shape file) (unit_at file.layout file.cluster image) view → boot_of view < 2 ^ 62 → RecordsReplies (kept (begun_work file image view))
begun_records file image view version whole found unspent =
    let w : Work = opened (shape file) (unit_at file.layout file.cluster image) view in let before : IsWork (shape file) (spelling file) w =
    found_law (shape file)
    (spelling file) (unit_at file.layout file.cluster image) view (codec_of file) (second_found file image view whole version found)
    (of_places file.layout file.cluster file.named (parse_of (layout_of file.layout)) image whole) found in
    let raise = raised_law (shape file) (spelling file) w (boot_sum (codec file) (memory_of (shape file) (spelling file) w)) before unspent in
    λ k s at some.
    inl (recorded_low (shape file) view (kept (begun_work file image view)).checkpoint.content before.view raise.may.is.records k s at some)

pub opened_shows_records : OpenedShowsRecords
opened_shows_records file first t layout found c shows calls v there = let keeps = anew Whole file first t layout found c shows calls in
    let held : Holds
    (shape file) (unit_at file.layout file.cluster (begun_after found.mending.events t).shown) (kept (begun_work file t.shown first)) =
    rw (one Whole file first t layout found c shows calls) at keeps.kept.kept_by.0.tidy.rests.holds in
    let view_is : kept (begun_work file t.shown first) ≡ v =
    one_found_law
    (shape file) (unit_at file.layout file.cluster (begun_after found.mending.events t).shown) (kept (begun_work file t.shown first)) v
    (holds_found (shape file)
    (unit_at file.layout file.cluster (begun_after found.mending.events t).shown) (kept (begun_work file t.shown first)) held) there in
    rw (← view_is)
    (begun_records file t.shown first shows.version shows.whole shows.found (unspent_begun Whole file first t layout found c shows calls))
