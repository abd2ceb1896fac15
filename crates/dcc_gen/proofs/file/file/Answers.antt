use Rattle.std.proofs.Common.{◌≡◌, ◌+◌, ◌*◌, ◌++◌, length, ap, ◌∙◌, arith}
use Rattle.dcc_gen.specs.File.{paragraphs_of, image_of, header_of, file_with}
use Rattle.dcc_gen.proofs.FileLaws.{length-image}
use Rattle.dcc_gen.proofs.file.file.Goals as goal

pub returns : goal.returns
unfolding file_with
returns c =
    let code = c.args.code.now in
    let image = image_of code c.args.words.now in
    let paragraphs = c.div_ceil-paragraphs.result in
    let is : paragraphs ≡ paragraphs_of code = c.div_ceil-paragraphs.ensures in
    let bytes : 32 + 16 * paragraphs + 128 ≡ 32 + length image =
    omega (arith, is, length-image code c.args.words.now c.requires.words) in
    c.in_ok-push_image.ensures
    ∙ ap (λ l. l ++ image) (c.in_ok-push_header.ensures
    ∙ ap (λ l. l ++ header_of (32 + 16 * paragraphs + 128) paragraphs) c.new-file.ensures.items)
    ∙ ap (λ n. header_of n paragraphs ++ image) bytes
    ∙ ap (λ n. header_of (32 + length image) n ++ image) is
