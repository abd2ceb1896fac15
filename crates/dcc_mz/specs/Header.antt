-- The header as it is read.
use Rattle.std.specs.Prelude.{◌≡◌, ℕ, List}
use Rattle.dcc_machine.specs.MzImage.{last_page_bytes, page_count, relocation_count, header_paragraphs, header_ss}
use Rattle.dcc_machine.specs.MzImage.{header_sp, header_ip, header_cs, relocation_table}
use Rattle.dcc_mz.specs.declared.header.Header.{Header}

-- each field is its word of the file
pub record IsHeaderOf (file : List ℕ) (header : Header) : Type 0 where
  pub last_page_bytes : header.last_page_bytes ≡ last_page_bytes file
  pub pages : header.pages ≡ page_count file
  pub relocations : header.relocations ≡ relocation_count file
  pub paragraphs : header.paragraphs ≡ header_paragraphs file
  pub ss : header.ss ≡ header_ss file
  pub sp : header.sp ≡ header_sp file
  pub ip : header.ip ≡ header_ip file
  pub cs : header.cs ≡ header_cs file
  pub relocation_table : header.relocation_table ≡ relocation_table file
