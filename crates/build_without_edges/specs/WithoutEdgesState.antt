-- What the inner functions know about the tree and the buffer.
use Rattle.std.specs.Prelude.{List, ◌≡◌, ℕ, ◌+◌, ◌*◌, ◌≤◌, ◌<◌, length}
use Rattle.format.specs.Layout.{header_length}
use Rattle.format.specs.LayoutLaws.{Readable}
use Rattle.format.specs.Layout as at
use Rattle.layout.specs.declared.header.Header.{Header}
use Rattle.layout.specs.HeaderFields.{HeaderOf}
use Rattle.theory_without_edges.specs.WithoutEdges.{layout1_record_size, layout1_offset, record_count, without_edges}

module _ (t : List ℕ) where
  -- The tree passes questions 5 to 7; its levels; `stride` is the size of a record without edges; its offsets fit a word.
  pub record ReadableSizes (levels stride : ℕ) : Type 0 where
    pub facts : Readable t
    pub levels_is : levels ≡ (at.settings t).levels
    pub stride_is : stride ≡ layout1_record_size t
    pub small : at.leaf_offset t < 4294967296

  pub record HeaderRoom (levels stride leaves : ℕ) (out : List ℕ) : Type 0 where
    pub sizes : ReadableSizes levels stride
    pub leaves_is : leaves ≡ layout1_offset t levels
    pub room : header_length ≤ length out

  pub record RecordRoom (count size stride : ℕ) (out : List ℕ) : Type 0 where
    pub facts : Readable t
    pub count_is : count ≡ record_count t
    pub size_is : size ≡ at.record_size t
    pub stride_is : stride ≡ layout1_record_size t
    pub room : header_length + count * stride ≤ length out

  pub record WholeRoom (h : Header) (stride count : ℕ) (out : List ℕ) : Type 0 where
    pub header : HeaderOf t h
    pub stride_is : stride ≡ layout1_record_size t
    pub count_is : count ≡ record_count t
    pub small : at.leaf_offset t < 4294967296
    pub room : length (without_edges t) ≤ length out
